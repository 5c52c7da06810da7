-- The word, the digits and the line's end stand behind each other. Assumes nothing.
use Rattle.text.proofs.PutLaws.{refusal-put}
use Rattle.text.proofs.lay_refused.Goals as goal

pub returns : goal.returns
returns c = refusal-put _ _ _ _ c.requires.0 c.lay_text.ensures c.lay_digits.ensures
