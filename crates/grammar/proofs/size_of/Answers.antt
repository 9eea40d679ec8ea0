use Rattle.grammar.specs.Grammar.{marker_size}
use Rattle.markers.specs.Markers.{marker_by}
use Rattle.grammar.proofs.size_of.Goals as goal

pub returns-in-Router : goal.returns-in-Router
unfolding marker_size marker_by
returns-in-Router c = simp c.in-Router.is

pub returns-in-Xdomain : goal.returns-in-Xdomain
unfolding marker_size marker_by
returns-in-Xdomain c = simp c.in-Xdomain.is

pub returns-in-Adapter : goal.returns-in-Adapter
unfolding marker_size marker_by
returns-in-Adapter c = simp c.in-Adapter.is

pub returns-in-Usb4 : goal.returns-in-Usb4
unfolding marker_size marker_by
returns-in-Usb4 c = simp c.in-Usb4.is

pub returns-in-Regs : goal.returns-in-Regs
unfolding marker_size marker_by
returns-in-Regs c = simp c.in-Regs.is

pub returns-in-Paths : goal.returns-in-Paths
unfolding marker_size marker_by
returns-in-Paths c = simp c.in-Paths.is

pub returns-in-NoPaths : goal.returns-in-NoPaths
unfolding marker_size marker_by
returns-in-NoPaths c = simp c.in-NoPaths.is

pub returns-in-Bad : goal.returns-in-Bad
unfolding marker_size marker_by
returns-in-Bad c = simp c.in-Bad.is
