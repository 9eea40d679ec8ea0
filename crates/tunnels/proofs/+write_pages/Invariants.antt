use Rattle.std.proofs.Common.{◌-◌}
use Rattle.tunnels.proofs.+write_pages.Given as goal

-- Each half is shorter.
abbrev pub decreases-write_pages : goal.decreases-write_pages
decreases-write_pages g l = l.end - l.from
