use Rattle.usb4.specs.Numbers.{type_number}
use Rattle.state.specs.State.{ports}
use Rattle.named.specs.Named.{registers_in}
use Rattle.layout.specs.Description.{descriptions_of}
use Prim.Native.Nat.{◌-◌}
use mathlib.Core.Path.{◌≡◌}
use Rattle.state.proofs.port_states.Given as goal

abbrev pub invariant-loop-port : goal.invariant-loop-port
invariant-loop-port l = ports (descriptions_of l.registers.descriptions.now) l.site (type_number l.registers.kind) (registers_in l.registers) l.cap l.port (l.count - l.port) ≡ ports (descriptions_of l.registers.descriptions.now) l.site (type_number l.registers.kind) (registers_in l.registers) l.cap 0 l.count
