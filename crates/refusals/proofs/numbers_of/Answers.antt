use mathlib.Core.Path.{sym, ap, ◌∙◌}
use Rattle.refusal.specs.Refusal.{refused_by}
use Rattle.refusals.specs.Told.{refused_as, values_of}
use Rattle.refusals.proofs.numbers_of.Goals as goal

pub returns-in-NotAscii : goal.returns-in-NotAscii
unfolding refused_as values_of
returns-in-NotAscii c = sym (ap refused_by c.in-NotAscii.is)

pub returns-in-Short : goal.returns-in-Short
unfolding refused_as values_of
returns-in-Short c = sym (ap refused_by c.in-Short.is)

pub returns-in-Descriptions : goal.returns-in-Descriptions
unfolding refused_as values_of
returns-in-Descriptions c = sym (ap refused_by c.in-Descriptions.is)

pub returns-in-Survey : goal.returns-in-Survey
unfolding refused_as values_of
returns-in-Survey c = sym (ap refused_by c.in-Survey.is)

pub returns-in-NoField : goal.returns-in-NoField
unfolding refused_as values_of
returns-in-NoField c = sym (ap refused_by c.in-NoField.is)

pub returns-in-Fault : goal.returns-in-Fault
unfolding refused_as values_of
returns-in-Fault c = c.of_fault.ensures ∙ sym (ap refused_by c.in-Fault.is)

pub returns-in-Missing : goal.returns-in-Missing
unfolding refused_as values_of
returns-in-Missing c = sym (ap refused_by c.in-Missing.is)
