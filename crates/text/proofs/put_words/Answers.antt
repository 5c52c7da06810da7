-- There is room for all of the bytes, or the refusal has left the slice as it was. Assumes nothing.
use Rattle.std.proofs.Common.{rules, ◌≡◌, ℕ, ◌*◌, arith, MatchResult}
use Rattle.text.proofs.PutLaws.{words-room, words-answered}
use Rattle.text.proofs.put_words.Goals as goal

pub map_or-requires : goal.map_or-requires
map_or-requires c n is told ranges =
    let (same, room) = words-room c.args.words.now c.args.out.now (rw is at c.bytes_of_words.ensures.result_value) in
    record { fits = omega (arith, same, room, c.well_formed.0.0) }

pub returns : goal.returns
returns c =
    let put = c.bytes_of_words.ensures in
    let counted : MatchResult c.bytes_of_words.result (λ (n : ℕ). c.map_or.result ≡ 4 * n) (λ _. c.map_or.result ≡ 0) =
    search rules in
    let h = words-answered _ _ c.bytes_of_words.result put.result_value put.bytes_after counted in
    record { out_after = h.0; value = h.1 }
