-- What write Inspect puts back of the halves that it walked aside, and its answers once the walks are done. Assumes nothing.
use mathlib.Core.Bool.{Bool}
use mathlib.Core.List.{List, [], ◌∷◌, ◌++◌, append_assoc, append-nil}
use mathlib.Core.Logic.{◌⊎◌, inl, inr, ⊎_elim}
use mathlib.Core.Path.{◌≡◌, refl, sym, ap, ap₂, ◌∙◌}
use Prim.Native.Nat.{ℕ, zero, ◌+◌, ◌-◌, ◌*◌, ◌/◌, ◌%◌, ◌≤◌, ◌<◌}
use native.Mathlib.Omega.{arith}
use borrow.Rule.Slice.PartMut.{put_mid}
use lib.ListN.{length, take, drop, replicate, length-drop, length-append, drop_of_length-le, length-replicate}
use lib.Seq.{take_all, drop_at, drop-drop, drop-append-le, drop-append-add, length-take-le}
use Rattle.cells.specs.Bytes.{bits, bytes, Bytes, at_start}
use Rattle.cells.proofs.Bytes.{length_bits, bytes_add, Bytes-three, Bytes-drop}
use Rattle.cells.proofs.Fits.{bytes_front}
use Rattle.answer.specs.Answer.{Answer, result, refusal, answer}
use Rattle.window.specs.Words.{join, page_words, page_of, put_words, Words}
use Rattle.window.proofs.Words.{length_join, join_append, length_put_words, length_page_words, Words-page_words, put_words_all}
use Rattle.rows.specs.declared.shape.Shape.{Shape}
use Rattle.rows.specs.Page.{state_inspect, with_header, blank_of, FirstRoundOf}
use Rattle.rows.specs.Code.{room_for, written_of}
use Rattle.rows.proofs.Blank.{Bytes-blank}
use Rattle.rows.proofs.Shapes.{words_inside}
use Rattle.page.specs.Answer.{first_checks, write_checks}
use Rattle.page.proofs.CodeAnswers.{write_taken, write_8}
use Rattle.page.proofs.CodeAnswers as page
use Rattle.inspect.specs.Rows.{walked_all, taken_all, inspect_code}
use Rattle.inspect.proofs.Rows.{length_walked_all, words_walked_all, walked_all_append, taken_all_append, taken_all_bits, taken_all_most}
use Rattle.inspect.proofs.Halves.{Halved, lent, back_words, whole, lent_is, Words-front, Words-back, words_split}

-- ---- bytes

-- the bytes of words that take whole ones
abbrev body : List (List Bool) → List ℕ
body ws = bytes (46 * length ws / 8) (join ws)

abbrev blank : List ℕ
blank = replicate 256 0

length_blank : length blank ≡ 256
length_blank = length-replicate 256 zero

-- words put aside leave as many
pub length_aside : (ws : List (List Bool)) → length (put_words blank ws) ≡ 256
length_aside ws = length_put_words blank ws ∙ length_blank

-- 44 words put aside: their bytes after the first three
aside_body : (ws : List (List Bool)) → Words ws → length ws ≡ 44 → drop 3 (put_words blank ws) ≡ body ws
unfolding page_of blank_of
aside_body ws hs l =
    let t : length (take 3 blank) ≡ 3 = length-take-le 3 blank (omega (arith, length_blank)) in
    let z : drop (3 + 253) blank ≡ [] = drop_of_length-le blank {i = 3 + 253} (omega (arith, length_blank)) in
    ap (drop 3) (put_words_all ws 253 hs (omega arith) blank (Bytes-blank 256) (omega (arith, length_blank)))
    ∙ drop_at (take 3 blank) (body ws ++ drop (3 + 253) blank) 3 t
    ∙ ap (λ (r : List ℕ). body ws ++ r) z ∙ append-nil (body ws)

-- the bytes of a row after another
body_append : (ws vs : List (List Bool)) → Words ws → length ws ≡ 44 → body (ws ++ vs) ≡ body ws ++ body vs
body_append ws vs hs l =
    let x = join ws in
    let y = join vs in
    let n : length x ≡ 8 * 253 = omega (arith, length_join ws hs) in
    let e : 46 * length (ws ++ vs) / 8 ≡ 253 + 46 * length vs / 8 = omega (arith, length-append ws vs) in
    let f : 46 * length ws / 8 ≡ 253 = omega arith in
    ap₂ bytes e (join_append ws vs)
    ∙ bytes_add 253 (46 * length vs / 8) (x ++ y)
    ∙ ap₂ (λ (a b : List ℕ). a ++ b) (bytes_front 253 x y (omega arith) ∙ ap (λ (k : ℕ). bytes k x) (sym f))
    (ap (bytes (46 * length vs / 8)) (drop_at x y (8 * 253) n))

-- ---- the halves put back

-- the second half: the first 8 * k bytes aside over the page from byte 253 on
module _ (back D : List ℕ) (vs : List (List Bool)) (k : ℕ) (e : back ≡ put_words blank vs) (hs : Words vs) where
  abbrev part : List ℕ
  part = at_start (take (8 * k) back) D

  -- there is none
  part_none : length vs ≡ 0 → k ≡ 0 → drop 3 part ≡ body vs ++ drop (3 + 46 * length vs / 8) D
  unfolding at_start bytes
  part_none l z = rw (l, z) refl

  part_whole : length vs ≡ 44 → k ≡ 32 → drop 3 part ≡ body vs ++ drop (3 + 46 * length vs / 8) D
  unfolding at_start
  part_whole l z =
      let n : length back ≡ 256 = ap length e ∙ length_aside vs in
      let t : take (8 * k) back ≡ back = take_all (8 * k) back (omega arith) in
      let m : length back ≡ 3 + 46 * length vs / 8 = omega arith in
      ap (λ (x : List ℕ). drop 3 (x ++ drop (length x) D)) t
      ∙ drop-append-le 3 back (drop (length back) D) (omega arith)
      ∙ ap₂ (λ (x y : List ℕ). x ++ y) (ap (drop 3) e ∙ aside_body vs hs l) (ap (λ (j : ℕ). drop j D) m)

-- the page after both: P with `part` from byte 253 on, the first half over that, and the header
module _ (P part : List ℕ) (h : 256 ≤ length P) (ws : List (List Bool)) (hs : Words ws) (lw : length ws ≡ 44) where
  abbrev front : List ℕ
  front = put_words blank ws

  abbrev replaced : List ℕ
  replaced = take 253 P ++ (part ++ drop (length P - 253) (drop 253 P))

  -- after its third byte
  put_back : drop 3 (at_start (take (8 * 32) front) replaced) ≡ body ws ++ drop 3 part
  unfolding at_start
  put_back =
      let t : take (8 * 32) front ≡ front = take_all (8 * 32) front (omega (arith, length_aside ws)) in
      let c : length (take 253 P) ≡ 253 = length-take-le 253 P (omega arith) in
      let z : drop (length P - 253) (drop 253 P) ≡ [] = drop_of_length-le (drop 253 P) {i = length P - 253} (omega (arith, length-drop 253 P)) in
      let r : drop 256 replaced ≡ drop 3 part =
      ap (λ (j : ℕ). drop (j + 3) replaced) (sym c)
      ∙ drop-append-add (take 253 P) (part ++ drop (length P - 253) (drop 253 P)) 3
      ∙ ap (λ (x : List ℕ). drop 3 (part ++ x)) z ∙ ap (drop 3) (append-nil part) in
      ap (λ (x : List ℕ). drop 3 (x ++ drop (length x) replaced)) t
      ∙ drop-append-le 3 front (drop (length front) replaced) (omega (arith, length_aside ws))
      ∙ ap₂ (λ (x y : List ℕ). x ++ y) (aside_body ws hs lw) (ap (λ (j : ℕ). drop j replaced) (length_aside ws) ∙ r)

-- ---- the page's answer

-- what the check of a first-round page refuses, the writer refuses
pub write_refused : (s : Shape) (P R : List ℕ) (n i : ℕ) → ◌≡◌ {A = Answer} (refusal n i) (answer (first_checks s P) 0)
    → answer {A = ℕ} (write_checks inspect_code s P R) 0 ≡ refusal n i
unfolding first_checks
write_refused s P R n i e = page.write_refused inspect_code s P R 0 n i (sym e)

-- the words of a first-round page are walked over a record: the bits taken by those of the first half, and by all
pub record Walked (s : Shape) (P R : List ℕ) (half n : ℕ) : Type 0 where
  pub halved : Halved s
  pub first_round : FirstRoundOf s P
  pub half_is : half ≡ taken_all (page_words P 44) (bits R)
  pub taken_is : n ≡ half + taken_all (back_words s P) (drop half (bits R))

-- from what the code found, with the second half lent
module _ {s : Shape} {P : List ℕ} (h : Halved s) (p : FirstRoundOf s P) (R : List ℕ) (half : ℕ)
    (e : half ≡ 0 + taken_all (page_words P 44) (bits R)) where
  pub half_few : half ≤ 1980
  half_few = omega (arith, e, taken_all_most (page_words P 44) (bits R) (Words-front h P p.sized), length_page_words P 44)

  pub half_inside : half ≤ 8 * length R
  half_inside = omega (arith, e, taken_all_bits (page_words P 44) (bits R), length_bits R)

  pub all_walked : (n : ℕ) → n ≡ half + taken_all (page_words (lent P) (s.words - 44)) (drop half (bits R)) → Walked s P R half n
  all_walked n g = record {
    halved = h;
    first_round = p;
    half_is = omega (arith, e);
    taken_is = g ∙ ap (λ (q : List ℕ). half + taken_all (page_words q (s.words - 44)) (drop half (bits R))) (lent_is h P p.sized);
  }

module _ {s : Shape} {P R : List ℕ} {half n : ℕ} (w : Walked s P R half n) where
  abbrev after : ℕ
  after = s.words - 44

  abbrev xs : List (List Bool)
  xs = page_words P 44

  abbrev ys : List (List Bool)
  ys = back_words s P

  taken_room : n ≡ room_for inspect_code s P R
  taken_room =
      w.taken_is ∙ ap (λ (j : ℕ). j + taken_all ys (drop j (bits R))) w.half_is
      ∙ sym (taken_all_append xs ys (bits R)) ∙ ap (λ (l : List (List Bool)). taken_all l (bits R)) (sym (words_split s w.halved P))

  pub taken_few : n ≤ 3960
  taken_few =
      let h = w.halved in
      let few = half_few h w.first_round R half (omega (arith, w.half_is)) in
      let most = taken_all_most ys (drop half (bits R)) (Words-back h P w.first_round.sized) in
      omega (arith, w.taken_is, few, most, length_page_words (drop 253 P) after, h.sound.few)

  pub write_long : n / 8 < length R → answer {A = ℕ} (write_checks inspect_code s P R) 0 ≡ refusal 8 n
  write_long k = (write_8 inspect_code s P R n w.first_round.of_bytes).1 (w.first_round, taken_room, omega arith)

  pub write_done : length R ≤ n / 8 → answer {A = ℕ} (write_checks inspect_code s P R) 0 ≡ result 0
  write_done k = (write_taken inspect_code s P R 0 w.first_round.of_bytes).1 (w.first_round, omega (arith, taken_room), refl)

  abbrev ws : List (List Bool)
  ws = walked_all xs (bits R)

  abbrev vs : List (List Bool)
  vs = walked_all ys (drop half (bits R))

  walked_is : walked_all (page_words P s.words) (bits R) ≡ ws ++ vs
  walked_is =
      ap (λ (l : List (List Bool)). walked_all l (bits R)) (words_split s w.halved P)
      ∙ walked_all_append xs ys (bits R) ∙ ap (λ (j : ℕ). ws ++ walked_all ys (drop j (bits R))) (sym w.half_is)

  length_back : length vs ≡ after
  length_back = length_walked_all ys (drop half (bits R)) ∙ length_page_words (drop 253 P) after

  none_or_44 : (length vs ≡ 0) ⊎ (length vs ≡ 44)
  none_or_44 = ⊎_elim (λ o. inl (omega (arith, length_back, o))) (λ o. inr (omega (arith, length_back, o))) w.halved.one_or_two

  back_bytes : 46 * length vs ≡ 8 * (46 * length vs / 8)
  back_bytes = ⊎_elim (λ (e : length vs ≡ 0). rw e refl) (λ (e : length vs ≡ 44). rw e refl) none_or_44

  -- the second half in place, or none
  half_put : (back : List ℕ) → back ≡ put_words blank vs
      → drop 3 (at_start (take (8 * (s.size / 8 - 32)) back) (drop 253 P)) ≡ body vs ++ drop (3 + 46 * length vs / 8) (drop 253 P)
  half_put back e =
      let hv : Words vs = words_walked_all ys (drop half (bits R)) (Words-back w.halved P w.first_round.sized) in
      let lv = length_back in
      ⊎_elim (λ o. part_none back (drop 253 P) vs (s.size / 8 - 32) e hv (omega (arith, lv, o)) (omega (arith, o)))
      (λ o. part_whole back (drop 253 P) vs (s.size / 8 - 32) e hv (omega (arith, lv, o)) (omega (arith, o))) w.halved.one_or_two

  -- the page with both halves put over it, and the header
  page_put : (front back page next : List ℕ) → front ≡ put_words blank ws → back ≡ put_words blank vs
      → page ≡ put_mid 253 (length P - 253) P (at_start (take (8 * (s.size / 8 - 32)) back) (drop 253 P))
      → next ≡ at_start (take (8 * 32) front) page → length R < 65536
      → with_header state_inspect (length R) next ≡ written_of inspect_code s P R
  unfolding written_of
  page_put f b page next ef eb ep ex few =
      let h = w.halved in
      let p = w.first_round in
      let l = whole h P p.sized in
      let lw : length ws ≡ 44 = length_walked_all xs (bits R) ∙ length_page_words P 44 in
      let hw : Words ws = words_walked_all xs (bits R) (Words-front h P p.sized) in
      let m = 46 * length vs / 8 in
      let H = with_header state_inspect (length R) P in
      let hH : Bytes H = Bytes-three state_inspect (length R % 256) (length R / 256) (drop 3 P) (omega arith) (omega arith) (omega arith)
      (Bytes-drop 3 P p.of_bytes) in
      let left : drop 3 next ≡ body ws ++ (body vs ++ drop (3 + m) (drop 253 P)) =
      ap (drop 3) (ex ∙ ap₂ (λ (x y : List ℕ). at_start (take (8 * 32) x) y) ef ep)
      ∙ put_back P (at_start (take (8 * (s.size / 8 - 32)) b) (drop 253 P)) l ws hw lw ∙ ap (λ (x : List ℕ). body ws ++ x) (half_put b eb) in
      let tail : drop (3 + (253 + m)) H ≡ drop (3 + m) (drop 253 P) =
      let f : 3 + (253 + m) ≡ 253 + (3 + m) = omega arith in
      sym (drop-drop (253 + m) 3 H) ∙ drop-drop (253 + m) 3 P ∙ ap (λ (j : ℕ). drop j P) f ∙ sym (drop-drop (3 + m) 253 P) in
      let all = Words-page_words P s.words (omega (arith, p.sized, words_inside h.sound)) in
      let hs : Words (ws ++ vs) = rw (sym walked_is) (words_walked_all (page_words P s.words) (bits R) all) in
      let right : put_words H (ws ++ vs) ≡ state_inspect ∷ length R % 256 ∷ length R / 256 ∷ (body (ws ++ vs) ++ drop (3 + (253 + m)) H) =
      put_words_all (ws ++ vs) (253 + m) hs (omega (arith, length-append ws vs, lw, back_bytes)) H hH
      (omega (arith, length-drop 3 P, l, length_back, back_bytes, p.sized, words_inside h.sound, h.least))
      ∙ unfold page_of in refl in
      ap (λ (x : List ℕ). state_inspect ∷ length R % 256 ∷ length R / 256 ∷ x)
      (left ∙ sym (append_assoc (body ws) (body vs) (drop (3 + m) (drop 253 P)))
      ∙ ap₂ (λ (x y : List ℕ). x ++ y) (sym (body_append ws vs hw lw)) (sym tail))
      ∙ sym right ∙ ap (put_words H) (sym walked_is)

  -- ... as the code puts them, through what is lent of the page
  pub page_done : (front back part next : List ℕ) → front ≡ put_words blank ws
      → back ≡ put_words blank (walked_all (page_words (lent P) after) (drop half (bits R)))
      → part ≡ at_start (take (8 * (s.size / 8 - 32)) back) (lent P)
      → next ≡ at_start (take (8 * 32) front) (put_mid 253 (length P - 253) P part)
      → length R ≤ n / 8 → with_header state_inspect (length R) next ≡ written_of inspect_code s P R
  page_done f b part next ef eb ep ex k =
      let e : lent P ≡ drop 253 P = lent_is w.halved P w.first_round.sized in
      page_put f b _ next ef (eb ∙ ap (λ (q : List ℕ). put_words blank (walked_all (page_words q after) (drop half (bits R)))) e)
      (ap (put_mid 253 (length P - 253) P) (ep ∙ ap (at_start (take (8 * (s.size / 8 - 32)) b)) e)) ex (omega (arith, taken_few))
