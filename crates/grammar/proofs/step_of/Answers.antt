use Rattle.grammar.specs.Grammar.{step_of}
use Rattle.markers.specs.Markers.{marker_by}
use Rattle.grammar.proofs.step_of.Goals as goal

pub returns-in-Router : goal.returns-in-Router
unfolding step_of marker_by
returns-in-Router c = simp c.in-Router.is

pub returns-in-Xdomain : goal.returns-in-Xdomain
unfolding step_of marker_by
returns-in-Xdomain c = simp c.in-Xdomain.is

pub returns-in-Usb4 : goal.returns-in-Usb4
unfolding step_of marker_by
returns-in-Usb4 c = simp (c.to_usb4.ensures, c.in-Usb4.is)

pub returns-in-Regs : goal.returns-in-Regs
unfolding step_of marker_by
returns-in-Regs c = simp (c.to_regs.ensures, c.in-Regs.is)

pub returns-in-Adapter : goal.returns-in-Adapter
unfolding step_of marker_by
returns-in-Adapter c = simp (c.to_adapter.ensures, c.in-Adapter.is)

pub returns-in-Paths : goal.returns-in-Paths
unfolding step_of marker_by
returns-in-Paths c = simp (c.to_paths.ensures, c.in-Paths.is)

pub returns-in-NoPaths : goal.returns-in-NoPaths
unfolding step_of marker_by
returns-in-NoPaths c = simp (c.to_paths-in-NoPaths.ensures, c.in-NoPaths.is)

pub returns-in-Bad : goal.returns-in-Bad
unfolding step_of marker_by
returns-in-Bad c = simp c.in-Bad.is
