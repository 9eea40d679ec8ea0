use Rattle.search.proofs.find_adapter.Goals as goal

pub returns-in_default : goal.returns-in_default
returns-in_default c = c.adapter_word.ensures.missing c.in_default.is

pub returns : goal.returns
returns c = c.adapter_word.ensures.found _ c.in-Some.is _ c.facts_of.ensures
