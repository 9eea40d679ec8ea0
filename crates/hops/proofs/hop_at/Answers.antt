use Rattle.hops.proofs.Words.{hop_made}
use Rattle.hops.proofs.hop_at.Goals as goal

pub returns : goal.returns
returns c = hop_made _ _ _ _ _ c.place_in.ensures c.word_at-first.ensures c.word_at-second.ensures
