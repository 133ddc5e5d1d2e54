-- Words filled before Change 6: the fill leaves out at most their last cell, adds nothing to them, and finds the same data cells.
-- Assumes nothing.
use mathlib.Core.Bool.{Bool, true, false, cond, not, ◌&&◌, ◌||◌}
use mathlib.Core.List.{List, [], ◌∷◌, drop_last}
use mathlib.Core.Logic.{◌↔◌}
use mathlib.Core.Path.{◌≡◌, refl, sym, ap, ◌∙◌}
use Prim.Native.Nat.{suc, ◌+◌, ◌≤◌}
use native.Mathlib.Omega.{arith}
use lib.Dec.{T}
use lib.ListN.{length}
use Rattle.cells.specs.Cells.{first, rest, fit, kept, set_cells, pulses}
use Rattle.cells.proofs.Kept.{kept_self}
use Rattle.cells.proofs.Tests.{is_true}
use Rattle.word.specs.Word.{sparse}
use Rattle.word.specs.Fill.{set_or_end, fill_from, fill, fill_pulses, read_from, read, capacity, last, put, clear, full, well_formed, is_filled}
use Rattle.word.specs.Earlier.{earlier_from, fill_earlier, capacity_earlier, well_formed_earlier}
use Rattle.word.specs.Claims.{Legal, EarlierWords}
use Rattle.word.proofs.Sums.{legal_parts}
use Rattle.word.proofs.Filling.{length_fill, kept_trans, fill_last}
use Rattle.word.proofs.Pulses.{fill_exact}
use Rattle.word.proofs.Formed.{formed_fill, filled_full, filled_from}
use Rattle.word.proofs.SecondBits.{read_put, put_put, clear_sparse}

pub length_earlier : (left : Bool) (cs : List Bool) → length (earlier_from left cs) ≡ length cs
unfolding earlier_from
length_earlier left [] = refl
length_earlier left (c ∷ cs) = ap suc (length_earlier (c || not (left || first cs)) cs)

-- ---- the cells that both set

fewer : (left : Bool) (cs : List Bool) → T (kept (fill_from left cs) (earlier_from left cs))
unfolding kept set_or_end fill_from earlier_from first rest
fewer left [] = tt
fewer left (true ∷ cs) = fewer true cs
fewer true (false ∷ cs) = fewer false cs
fewer false (false ∷ []) = tt
fewer false (false ∷ true ∷ cs) = fewer false (true ∷ cs)
fewer false (false ∷ false ∷ cs) = fewer true (false ∷ cs)

before_last : (left : Bool) (cs : List Bool) → drop_last (fill_from left cs) ≡ drop_last (earlier_from left cs)
unfolding set_or_end fill_from earlier_from first
before_last left [] = refl
before_last left (c ∷ []) = refl
before_last left (c ∷ d ∷ cs) = ap (λ l. (c || not (left || d)) ∷ l) (before_last (c || not (left || d)) (d ∷ cs))

-- the earlier fill set the last cell where that and the cell before it were 0; before a single cell there is `left`
last_set : (left c : Bool) (cs : List Bool)
    → last (earlier_from left (c ∷ cs)) ≡ (last (c ∷ cs) || not (last (left ∷ drop_last (earlier_from left (c ∷ cs)))))
unfolding earlier_from last first
last_set left true [] = refl
last_set true false [] = refl
last_set false false [] = refl
last_set left c (d ∷ cs) = last_set (c || not (left || d)) d cs

set_last : (w : List Bool) → 1 ≤ length w → last (fill_earlier w) ≡ (last w || not (last (drop_last (fill_earlier w))))
unfolding fill_earlier earlier_from last first
set_last [] h = absurd (omega arith)
set_last (c ∷ []) h = last_set false c []
set_last (c ∷ d ∷ cs) h = last_set false c (d ∷ cs)

-- the earlier fill set one cell more where it added the last
one_more : (left : Bool) (cs : List Bool)
    → set_cells (earlier_from left cs) ≡ set_cells (fill_from left cs) + cond (last (earlier_from left cs) && not (last cs)) 1 0
unfolding set_cells set_or_end fill_from earlier_from last first
one_more left [] = refl
one_more left (true ∷ []) = refl
one_more true (false ∷ []) = refl
one_more false (false ∷ []) = refl
one_more left (c ∷ d ∷ cs) = omega (arith, one_more (c || not (left || d)) (d ∷ cs))

spared : (w : List Bool) → pulses w (fill_earlier w) ≡ fill_pulses w + cond (last (fill_earlier w) && not (last w)) 1 0
unfolding fill_pulses pulses fill fill_earlier
spared w = omega (arith, one_more false w, fill_exact w)

-- ---- data cells

-- reading finds the same ones: a data cell is awaited only after a set cell
same_read : (awaited left : Bool) (cs : List Bool) → T (not awaited || left)
    → read_from awaited (earlier_from left cs) ≡ read_from awaited (fill_from left cs)
unfolding read_from set_or_end fill_from earlier_from first
same_read awaited left [] t = refl
same_read true false (c ∷ cs) t = absurd t
same_read true true (true ∷ cs) t = ap (λ l. true ∷ l) (same_read false true cs tt)
same_read true true (false ∷ cs) t = ap (λ l. false ∷ l) (same_read false false cs tt)
same_read false left (true ∷ cs) t = same_read true true cs tt
same_read false true (false ∷ cs) t = same_read false false cs tt
same_read false false (false ∷ []) t = refl
same_read false false (false ∷ true ∷ cs) t = same_read false false (true ∷ cs) tt
same_read false false (false ∷ false ∷ cs) t = same_read true true (false ∷ cs) tt

same_capacity : (w : List Bool) → capacity w ≡ capacity_earlier w
unfolding capacity capacity_earlier read fill fill_earlier
same_capacity w = ap length (sym (same_read false false w tt))

same_bits : (w bits : List Bool) → read (put (fill_earlier w) bits) ≡ read (put (fill w) bits)
unfolding read put capacity capacity_earlier
same_bits w bits =
    read_put false (fill_earlier w) bits ∙ ap (λ n. fit n bits) (sym (same_capacity w)) ∙ sym (read_put false (fill w) bits)

-- ---- a word filled earlier

apart : (left : Bool) (cs : List Bool) → T (sparse (left ∷ cs)) → T (sparse (left ∷ earlier_from left cs))
unfolding sparse first earlier_from
apart true [] t = tt
apart true (true ∷ cs) t = absurd t
apart true (false ∷ cs) t = apart false cs t
apart false [] t = tt
apart false (true ∷ cs) t = apart true cs t
apart false (false ∷ []) t = tt
apart false (false ∷ true ∷ cs) t = apart true cs t
apart false (false ∷ false ∷ cs) t = apart false cs t

-- the fill adds nothing to it
nothing_added : (left : Bool) (cs : List Bool) → fill_from left (earlier_from left cs) ≡ earlier_from left cs
unfolding set_or_end fill_from earlier_from first
nothing_added left [] = refl
nothing_added left (true ∷ cs) = ap (λ l. true ∷ l) (nothing_added true cs)
nothing_added true (false ∷ cs) = ap (λ l. false ∷ l) (nothing_added false cs)
nothing_added false (false ∷ []) = refl
nothing_added false (false ∷ true ∷ cs) = ap (λ l. false ∷ l) (nothing_added false (true ∷ cs))
nothing_added false (false ∷ false ∷ cs) = ap (λ l. true ∷ l) (nothing_added true (false ∷ cs))

module _ (w : List Bool) (t : T (sparse w)) where
  sparse_earlier : T (sparse (fill_earlier w))
  unfolding fill_earlier sparse first
  sparse_earlier = apart false w t

  full_earlier : T (full (fill_earlier w))
  unfolding full fill fill_earlier
  full_earlier = rw (nothing_added false w) (kept_self (fill_earlier w))

  filled_earlier_lem : T (is_filled (fill_earlier w))
  filled_earlier_lem = rw (filled_full (fill_earlier w) (is_true (sparse (fill_earlier w)) sparse_earlier)) full_earlier

  put_cleared : (bits : List Bool) → clear (put (fill_earlier w) bits) ≡ fill_earlier w
  unfolding clear put sparse first
  put_cleared bits = put_put false (fill_earlier w) bits [] ∙ clear_sparse false (fill_earlier w) sparse_earlier

  put_formed : (bits : List Bool) → T (well_formed (put (fill_earlier w) bits))
  unfolding well_formed
  put_formed bits = rw (put_cleared bits) full_earlier

origin : (w : List Bool) → Legal w → (u : List Bool) × Legal u × (fill_earlier w ≡ fill u)
unfolding fill_earlier
origin w h = (filled_from (fill_earlier w) (length_earlier false w ∙ h.0)).0 (filled_earlier_lem w (legal_parts w h.1).0)

-- ---- well formed

formed_still : (w : List Bool) → T (well_formed_earlier w) → T (well_formed w)
unfolding well_formed full fill well_formed_earlier fill_earlier
formed_still w t = kept_trans (fill (clear w)) (fill_earlier (clear w)) (clear w) (fewer false (clear w)) t

-- words of one length are the same if they are so before the last cell and in it
same_word : (cs ds : List Bool) → length cs ≡ length ds → drop_last cs ≡ drop_last ds → last cs ≡ last ds → cs ≡ ds
unfolding last
same_word [] [] e b l = refl
same_word [] (d ∷ ds) e b l = absurd (omega arith)
same_word (c ∷ cs) [] e b l = absurd (omega arith)
same_word (c ∷ []) (d ∷ []) e b l = ap (λ x. x ∷ []) l
same_word (c ∷ []) (d ∷ d' ∷ ds) e b l = absurd (omega arith)
same_word (c ∷ c' ∷ cs) (d ∷ []) e b l = absurd (omega arith)
same_word (c ∷ c' ∷ cs) (d ∷ d' ∷ ds) e b l =
    let h : c ≡ d = cc in
    let t : drop_last (c' ∷ cs) ≡ drop_last (d' ∷ ds) = cc in
    rw (h, same_word (c' ∷ cs) (d' ∷ ds) (omega arith) t l)

formed_exactly : (w : List Bool) → T (well_formed w) ↔ (drop_last (fill_earlier (clear w)) ≡ drop_last (clear w))
unfolding fill fill_earlier
formed_exactly w = (
  λ t. sym (before_last false (clear w)) ∙ ap drop_last ((formed_fill w).0 t),
  λ b.
      (formed_fill w).1
      (same_word (fill (clear w)) (clear w) (length_fill false (clear w)) (before_last false (clear w) ∙ b) (fill_last false (clear w))),
)

pub earlier_words : EarlierWords
unfolding fill fill_earlier
earlier_words = record {
  before_last = λ w. before_last false w;
  last_set = set_last;
  fewer = λ w. fewer false w;
  spared = spared;
  same_capacity = same_capacity;
  same_bits = same_bits;
  formed = λ w bits t. put_formed w t bits;
  cleared = λ w bits t. put_cleared w t bits;
  filled = filled_earlier_lem;
  comes_from = origin;
  formed_still = formed_still;
  formed_exactly = formed_exactly;
}
