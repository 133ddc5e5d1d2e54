-- Shapes of page: what the laws over a shape ask of it, that both shapes have it, and so has the shape of every length.
-- Assumes nothing.
use mathlib.Core.Bool.{Bool, true, false, cond}
use mathlib.Core.List.{List}
use mathlib.Core.Logic.{◌↔◌, ◌⊎◌, inl, inr, ⊎_elim}
use mathlib.Core.Path.{◌≡◌, refl, sym, ap, ◌∙◌, subst}
use Prim.Native.Nat.{ℕ, ◌+◌, ◌*◌, ◌/◌, ◌≤◌}
use native.Mathlib.Omega.{arith}
use borrow.Author.Tests.{eq-eqb, ne_eqb}
use lib.Dec.{eqb}
use lib.ListN.{length}
use Rattle.window.specs.Words.{start}
use Rattle.rows.specs.declared.shape.Shape.{Shape}
use Rattle.rows.specs.Page.{page256, page512, shape_for, shape_of}

-- ---- the shape of a length

pub for_512 : (k : ℕ) → k ≡ 512 → shape_for k ≡ page512
unfolding shape_for
for_512 k e = rw (eq-eqb k 512 e) refl

pub for_other : (k : ℕ) → ¬ (k ≡ 512) → shape_for k ≡ page256
unfolding shape_for
for_other k h = rw (ne_eqb k 512 h) refl

-- the sizes that there are
pub sizes : (k : ℕ) → (k ≡ (shape_for k).size) ↔ ((k ≡ 256) ⊎ (k ≡ 512))
unfolding shape_for
sizes k = (
  λ e. by (eqb k 512) e,
  λ h. ⊎_elim (λ e. e ∙ ap (λ (j : ℕ). (shape_for j).size) (sym e)) (λ e. e ∙ ap (λ (j : ℕ). (shape_for j).size) (sym e)) h,
)
  where
    by : (b : Bool) → k ≡ (cond b page512 page256).size → (k ≡ 256) ⊎ (k ≡ 512)
    by true e = inr e
    by false e = inl e

-- ---- what is asked of a shape

-- the bytes that the words take
abbrev pub word_bytes : Shape → ℕ
word_bytes σ = 46 * σ.words / 8

-- its words take whole bytes after the first three, inside the page; there are not many; a word takes four bytes of a first record; and a page
-- of its size is held to it
pub record Sound (σ : Shape) : Type 0 where
  pub whole : 46 * σ.words ≡ 8 * word_bytes σ
  pub inside : 3 + word_bytes σ ≤ σ.size
  pub small : σ.size ≤ 512
  pub few : σ.words ≤ 88
  pub fours : σ.first ≡ 4 * σ.words
  pub own : shape_for σ.size ≡ σ

pub sound256 : Sound page256
unfolding shape_for
sound256 = record { whole = refl; inside = omega arith; small = omega arith; few = omega arith; fours = refl; own = refl }

pub sound512 : Sound page512
unfolding shape_for
sound512 = record { whole = refl; inside = omega arith; small = omega arith; few = omega arith; fours = refl; own = refl }

module _ {σ : Shape} (f : Sound σ) where
  pub words_inside : start σ.words ≤ 8 * σ.size
  words_inside = omega (arith, f.whole, f.inside)

  -- a page of its size is held to it
  pub own_shape : (page : List ℕ) → length page ≡ σ.size → shape_of page ≡ σ
  own_shape page l = ap shape_for l ∙ f.own

-- each length has such a shape, and so has what was found for it
pub sound_for : (k : ℕ) → Sound (shape_for k)
unfolding shape_for
sound_for k = go (eqb k 512)
  where
    go : (b : Bool) → Sound (cond b page512 page256)
    go true = sound512
    go false = sound256

pub sound_of : (page : List ℕ) → Sound (shape_of page)
sound_of page = sound_for (length page)

pub sound_found : (σ : Shape) (k : ℕ) → σ ≡ shape_for k → Sound σ
sound_found σ k e = subst Sound (sym e) (sound_for k)
