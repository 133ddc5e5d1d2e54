-- Words that are well formed: filled words with second bits put in are, and all such words come from legal words.
-- Assumes nothing.
use mathlib.Core.Bool.{Bool, false}
use mathlib.Core.List.{List, [], ◌∷◌}
use mathlib.Core.Path.{◌≡◌, refl, sym, ap, ap₂, ◌∙◌}
use Prim.Native.Nat.{suc}
use native.Mathlib.Omega.{arith}
use lib.Dec.{T}
use lib.ListN.{length, drop, length-append}
use lib.Seq.{drop_at}
use Rattle.cells.specs.Cells.{first, kept}
use Rattle.cells.proofs.Kept.{kept_self}
use Rattle.window.specs.Words.{Words}
use Rattle.word.specs.Word.{sparse, legal}
use Rattle.word.specs.Fill.{fill, read, capacity, put, clear, full, well_formed}
use Rattle.word.specs.Claims.{Legal}
use Rattle.word.proofs.Filling.{fill_fill}
use Rattle.word.proofs.Claims.{second_bits_kept, well_formed_words}
use Rattle.rows.specs.Page.{fill_all, sum_over, capacity_all, read_all, put_all}
use Rattle.rows.proofs.EachWord.{Each, Row}
use Rattle.rows.proofs.SecondWords.{put_front}

formed_put : (w l : List Bool) → T (sparse w) → T (well_formed (put (fill w) l))
unfolding well_formed full
formed_put w l t = rw (second_bits_kept.cleared w l t) (go (fill w) (unfold fill sparse first in fill_fill false w t))
  where
    go : (f : List Bool) → fill f ≡ f → T (kept (fill f) f)
    go f e = rw e (kept_self f)

pub formed_put_all : (ws : List (List Bool)) (l : List Bool) → Each sparse ws → Each well_formed (put_all (fill_all ws) l)
unfolding put_all fill_all
formed_put_all [] l h = tt
formed_put_all (w ∷ ws) l h = (formed_put w l h.0, formed_put_all ws (drop (length (read (fill w))) l) h.1)

-- ---- and words that are well formed come from legal words

pub record Origin (ws us : List (List Bool)) : Type 0 where
  pub row : Row (length ws) us
  pub all_legal : Each legal us
  pub put_again : put_all (fill_all us) (read_all ws) ≡ ws
  pub same_room : capacity_all us ≡ length (read_all ws)

origin_more : (w u : List Bool) (ws us : List (List Bool)) → Legal u → clear w ≡ fill u → Origin ws us → Origin (w ∷ ws) (u ∷ us)
unfolding put_all fill_all read_all sum_over capacity
origin_more w u ws us h e o =
    let c : length (read (fill u)) ≡ length (read w) = ap (λ (x : List Bool). length (read x)) (sym e) ∙ well_formed_words.same_count w in
    record {
      row = (ap suc o.row.0, (h.0, o.row.1));
      all_legal = (h.1, o.all_legal);
      put_again =
          ap₂ (λ (x : List Bool) (r : List (List Bool)). x ∷ r)
          (put_front (fill u) (read w) (read_all ws) (sym c) ∙ ap (λ (x : List Bool). put x (read w)) (sym e) ∙ well_formed_words.put_again w)
          (ap (put_all (fill_all us)) (drop_at (read w) (read_all ws) (length (read (fill u))) (sym c)) ∙ o.put_again);
      same_room = omega (arith, o.same_room, length-append (read w) (read_all ws));
    }

pub origins : (ws : List (List Bool)) → Words ws → Each well_formed ws → (us : List (List Bool)) × Origin ws us
unfolding put_all fill_all read_all sum_over
origins [] h t = ([], record { row = (refl, tt); all_legal = tt; put_again = refl; same_room = refl })
origins (w ∷ ws) h t =
    let u = (well_formed_words.comes_from w h.0).0 t.0 in
    let o = origins ws h.1 t.1 in
    (u.0 ∷ o.0, origin_more w u.0 ws o.0 u.1 u.2 o.1)
