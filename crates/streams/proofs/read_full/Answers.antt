-- `streams::read_full` meets its contract: what a read brings comes after what had come, in the buffer as from the reader.
use Rattle.std.proofs.Common.{rules, ◌≡◌, ℕ, ◌+◌, ◌-◌, ◌≤◌, List, ◌++◌, length, take, drop, sym, ap, ◌∙◌, subst, le_refl, drop_at, length-take-le}
use Rattle.std.proofs.lemmas.Slice.{take-put_mid_below}
use Rattle.std.specs.Io.KnownBytes.{Consumes}
use Rattle.std.proofs.KnownBytes.{Consumes-trans}
use borrow.Rule.Slice.PartMut.{put_mid, post_of}
use lib.Seq.{take-add, take-append-le}
use Rattle.streams.proofs.read_full.Goals as goal

-- n bytes of ys put into xs from place a on come right after the first a
front_more : (a k n : ℕ) (xs ys : List ℕ) → a ≤ length xs → n ≤ length ys → take (a + n) (put_mid a k xs ys) ≡ take a xs ++ take n ys
front_more a k n xs ys h f =
    let all = put_mid a k xs ys in
    let behind = drop_at (take a xs) (ys ++ post_of a k xs) a (length-take-le a xs h) in
    take-add a n all ∙ ap (λ l. l ++ take n (drop a all)) (take-put_mid_below _ _ _ _ _ (le_refl _) h)
    ∙ ap (λ l. take a xs ++ take n l) behind ∙ ap (λ l. take a xs ++ l) (take-append-le n ys (post_of a k xs) f)

pub loop-done-preserved : goal.loop-done-preserved
loop-done-preserved g c =
    let l = c.loop-done in
    let more = front_more l.done (length l.buffer - l.done) c.in-Ok.n l.buffer c.read.new.buf l.invariant.1 c.in-Ok.ensures.bound.0 in
    (search rules, search rules, subst (Consumes _ _) (sym more) (Consumes-trans _ _ _ _ _ l.invariant.2 c.in-Ok.ensures.bytes.0))
