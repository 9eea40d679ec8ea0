use native.Mathlib.Omega.{arith}
use Rattle.discovery.proofs.+put_searched.Goals as goal

pub put_by_search-requires : goal.put_by_search-requires
put_by_search-requires t c = (omega arith, (c.requires.0, c.requires.1, c.receive-searched.ensures))
