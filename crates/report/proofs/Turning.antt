-- A turn of a listing: its line, the turn after it, and how many are left. Assumes nothing.
use mathlib.Core.Bool.{Bool, true, false, ◌&&◌}
use mathlib.Core.List.{List, [], ◌∷◌}
use mathlib.Core.Logic.{◌⊎◌, inl, inr, ⊎_elim}
use mathlib.Core.Path.{◌≡◌, refl, ap, ◌∙◌}
use Prim.Native.Nat.{ℕ, suc, ◌+◌, ◌-◌, ◌≤◌, ◌<◌}
use native.Mathlib.Omega.{arith}
use borrow.Author.Tests.{ltb-true, eq-eqb, ne_eqb, lt-ltb, le-ltb}
use lib.Dec.{eqb, ltb}
use lib.ListN.{length}
use Rattle.std.specs.Prelude.{Option, Some, None}
use Rattle.report.specs.Kinds.{kind_of}
use Rattle.report.specs.Lines.{line_of}
use Rattle.report.specs.Listing.{turn_line, next_turn}

module _ (index : ℕ) where
  -- nothing came
  pub turn_none : (l : List ℕ) → length l ≡ 0 → turn_line index l ≡ []
  unfolding turn_line
  turn_none [] e = refl
  turn_none (b ∷ l) e = absurd (omega arith)

  -- a piece came
  pub turn_some : (l : List ℕ) → ¬ (length l ≡ 0) → turn_line index l ≡ line_of index (kind_of l)
  unfolding turn_line
  turn_some [] e = absurd (e refl)
  turn_some (b ∷ l) e = refl

  -- where the line could not be written, after a short piece and after 4,096 pages there is no turn
  pub next_unwritten : (n : ℕ) (w : Bool) → w ≡ false → next_turn index n w ≡ None
  unfolding next_turn
  next_unwritten n w e = rw e refl

  pub next_short : (n : ℕ) (w : Bool) → ¬ (n ≡ 256) → next_turn index n w ≡ None
  unfolding next_turn
  next_short n false e = refl
  next_short n true e = rw (ne_eqb n 256 e) refl

  pub next_last : (n : ℕ) (w : Bool) → 4095 ≤ index → next_turn index n w ≡ None
  unfolding next_turn
  next_last n false h = refl
  next_last n true h = go (eqb n 256) refl
    where
      go : (b : Bool) → eqb n 256 ≡ b → next_turn index n true ≡ None
      go false e = rw e refl
      go true e = rw e rw (le-ltb (index + 1) 4096 (omega arith)) refl

  -- else the next page's
  pub next_page : (n : ℕ) (w : Bool) → w ≡ true → n ≡ 256 → index < 4095 → next_turn index n w ≡ Some (index + 1)
  unfolding next_turn
  next_page n w e s h = rw e rw (eq-eqb n 256 s) rw (lt-ltb (index + 1) 4096 (omega arith)) refl

  -- so there is none, or the next page's
  pub next_cases : (n : ℕ) (w : Bool) → (next_turn index n w ≡ None) ⊎ ((next_turn index n w ≡ Some (index + 1)) × (index < 4095))
  unfolding next_turn
  next_cases n w = go (w && eqb n 256) refl (ltb (index + 1) 4096) refl
    where
      go : (a : Bool) → w && eqb n 256 ≡ a → (b : Bool) → ltb (index + 1) 4096 ≡ b
          → (next_turn index n w ≡ None) ⊎ ((next_turn index n w ≡ Some (index + 1)) × (index < 4095))
      go false e b f = inl (rw e refl)
      go true e false f = inl (rw e rw f refl)
      go true e true f = let h = ltb-true (index + 1) 4096 f in inr (rw e rw f refl, omega arith)

-- ---- how many are left

-- at most, in a turn
abbrev pub turns_left : Option ℕ → ℕ
turns_left (Some index) = suc (4095 - index)
turns_left None = 0

-- a turn takes one of them
pub one_less : (index n : ℕ) (w : Bool) {t u : Option ℕ} → t ≡ Some index → u ≡ next_turn index n w → turns_left u < turns_left t
one_less index n w {t} {u} p e =
    let was : turns_left t ≡ suc (4095 - index) = ap turns_left p in
    ⊎_elim (λ h. let is : turns_left u ≡ 0 = ap turns_left (e ∙ h) in omega arith)
    (λ h. let is : turns_left u ≡ suc (4095 - (index + 1)) = ap turns_left (e ∙ h.0) in omega (arith, h.1)) (next_cases index n w)
