use native.Mathlib.Omega.{arith}
use Rattle.discovery.proofs.Answering.{in_larger, no_device, no_adapter, in_kind}
use Rattle.discovery.proofs.discover_in.Goals as goal

pub returns-then-tables-gt-MOST_ENTRIES : goal.returns-then-tables-gt-MOST_ENTRIES
returns-then-tables-gt-MOST_ENTRIES c = in_larger _ _ _ _ (λ z. omega (arith, z.entries, c.if-tables-gt-MOST_ENTRIES.true))

pub returns-then-tables-gt-MOST_DEVICES : goal.returns-then-tables-gt-MOST_DEVICES
returns-then-tables-gt-MOST_DEVICES c = in_larger _ _ _ _ (λ z. omega (arith, z.devices, c.if-tables-gt-MOST_DEVICES.true))

pub returns-in_default : goal.returns-in_default
returns-in_default c = no_device _ _ _ _ (record { entries = omega (arith, c.if-tables-gt-MOST_ENTRIES.false); devices = omega (arith, c.if-tables-gt-MOST_DEVICES.false) }) _ c.find_device.ensures c.in_default.is

pub returns-in_default-find_adapter : goal.returns-in_default-find_adapter
returns-in_default-find_adapter c = no_adapter _ _ _ _ (record { entries = omega (arith, c.if-tables-gt-MOST_ENTRIES.false); devices = omega (arith, c.if-tables-gt-MOST_DEVICES.false) }) _ c.find_device.ensures _ c.in-Some.is _ c.find_adapter.ensures c.in_default-find_adapter.is

pub returns : goal.returns
returns c = in_kind _ _ _ _ (record { entries = omega (arith, c.if-tables-gt-MOST_ENTRIES.false); devices = omega (arith, c.if-tables-gt-MOST_DEVICES.false) }) _ c.find_device.ensures _ c.in-Some.is _ c.find_adapter.ensures _ c.in-Some-find_adapter.is _ _ c.of_kind.ensures
