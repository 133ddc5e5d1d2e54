-- Laws of the second pass: the pages that have been copied are the first that the file tells.
-- Assumes nothing.
use mathlib.Core.Bool.{Bool, true, false, cond, not}
use mathlib.Core.List.{List, [], ◌∷◌, ◌++◌, append_assoc, append-nil}
use mathlib.Core.Path.{◌≡◌, refl, sym, ap, ap₂, ◌∙◌, subst}
use Prim.Native.Nat.{ℕ, zero, suc, ◌+◌, ◌-◌, ◌*◌, ◌/◌, ◌≤◌, ◌<◌}
use native.Mathlib.Omega.{arith}
use lib.Dec.{T, eqb, ltb}
use lib.ListN.{length, take, drop, get_or, length-append, length-drop}
use lib.Seq.{sets, length-take-le}
use Rattle.std.specs.List.{starts_with}
use Rattle.cells.specs.Bytes.{at_start}
use Rattle.cells.proofs.Storing.{sets_then, sets_at_start}
use Rattle.answer.specs.Answer.{AnswerOf, result, refusal, refuse, answer, after}
use Rattle.answer.proofs.Tells.{less, first_refused, passed}
use Rattle.transfer.specs.File.{start}
use Rattle.receive.specs.Field.{Sort, device, page, end, passed_over, unknown, sort_of, is_unknown, least, most, sort_in, length_in, contents_in, behind}
use Rattle.receive.specs.Read.{field_checks, field_of, kind_at, field_at, and_then, after_end, next_read, fields_read, fields_told, file_told, Told, Counts, counted, pages_told, read_file_answer, read_file_leaves}
use Rattle.receive.specs.declared.fields.Field.{Field}
use Rattle.receive.specs.declared.fields.FieldKind.{FieldKind}
use Rattle.receive.specs.declared.fields.FieldKind.TheVariants.{Page}
use Rattle.receive.proofs.Judging.{Tagged, tagged, sort_01, sort_at, not_a_result}
use Rattle.receive.proofs.Grammar.{right_start, wrong_start}
use Rattle.receive.proofs.Walking.{onward, Sound, field_sound, read_whole, Stands, stands_first, stands_refused, further, after_device, Paged, after_page, after_skipped, after_end_lem}

-- ---- pages are only added

pub record Grown (P : List ℕ) (t : Told) : Type 0 where
  pub more : List ℕ
  pub pages : ℕ
  pub is : t.1 ≡ P ++ more
  pub whole : length more ≡ 256 * pages

end_grown : (b : Bool) (d : ℕ) (P : List ℕ) (t : Told) → cond b (refusal 16 0) (result (d, P)) ≡ result t → Grown P t
end_grown true d P t e = not_a_result 16 0 t e
end_grown false d P t e =
    let q : t ≡ (d, P) = cc in record { more = []; pages = 0; is = ap (λ (u : Told). u.1) q ∙ sym (append-nil P); whole = refl }

page_contents : (s : ℕ) (f : List ℕ) → Sound s f → sort_in f ≡ page → length (contents_in f) ≡ 256
unfolding least most
page_contents s f h t =
    let lo : 256 ≤ length_in f = subst (λ (u : Sort). least u ≤ length_in f) t h.from in
    let hi : length_in f ≤ 256 = subst (λ (u : Sort). length_in f ≤ most u) t h.to in
    let e : length_in f ≡ 256 = omega arith in
    length-take-le (length_in f) (drop 3 f) (omega (arith, h.there, length-drop 3 f)) ∙ e

pub grown : (m s d : ℕ) (P f : List ℕ) (t : Told) → fields_read m s d P f ≡ result t → Grown P t
unfolding fields_read next_read after_end answer
grown zero s d P f t e = not_a_result 14 0 t e
grown (suc m) s d P f t e = go (answer (field_checks s f) (contents_in f)) refl (λ s' d' P' f' e'. grown m s' d' P' f' t e') e
  where
    by : (u : Sort) (c r : List ℕ) → sort_in f ≡ u → Sound s f → c ≡ contents_in f
        → ((s' d' : ℕ) (P' f' : List ℕ) → fields_read m s' d' P' f' ≡ result t → Grown P' t) → next_read (fields_read m) u s d P c r ≡ result t
        → Grown P t
    by device c r eu so ec ih h = ih _ _ P r h
    by page c r eu so ec ih h =
        let q = ih _ _ (P ++ c) r h in
        record {
          more = c ++ q.more;
          pages = 1 + q.pages;
          is = q.is ∙ append_assoc P c q.more;
          whole = length-append c q.more ∙ omega (arith, ap length ec, page_contents s f so eu, q.whole);
        }
    by end c r eu so ec ih h = end_grown (not (eqb (length r) 0)) d P t h
    by passed_over c r eu so ec ih h = ih _ _ P r h
    by unknown c r eu so ec ih h = not_a_result 15 0 t h

    go : (a : AnswerOf (List ℕ)) → answer (field_checks s f) (contents_in f) ≡ a
        → ((s' d' : ℕ) (P' f' : List ℕ) → fields_read m s' d' P' f' ≡ result t → Grown P' t)
        → onward m s d P f a ≡ result t → Grown P t
    go (result c) ea ih h = let so = field_sound s f (contents_in f) c ea in by (sort_in f) c (behind f) refl so.0 so.1 ih h
    go (refusal n i) ea ih h = not_a_result n i t h

-- ---- a file that tells n pages

-- none is refused
pub not_refused : (n a b : ℕ) (x : AnswerOf Told) → Counts n x → refusal a b ≡ x → ⊥
not_refused n a b x h e = subst (Counts n) (sym e) h

-- at the end all are there
pub end_counts : (n d : ℕ) (P r : List ℕ) (x : AnswerOf Told) → Counts n x → answer (after_end r) (d, P) ≡ x → length P ≡ 256 * n
unfolding after_end answer
end_counts n d P r x h e = go (not (eqb (length r) 0)) (subst (Counts n) (sym e) h)
  where
    go : (b : Bool) → Counts n (cond b (refusal 16 0) (result (d, P))) → length P ≡ 256 * n
    go true k = absurd k
    go false k = k

-- before the field at offset i the first k pages are put
pub record Copies (file out₀ out : List ℕ) (i k : ℕ) : Type 0 where
  pub s : ℕ
  pub d : ℕ
  pub P : List ℕ
  pub stands : Stands file i s d P
  pub put : out ≡ sets out₀ 0 P
  pub count : k ≡ s - 1

pub copies_first : (file out : List ℕ) → 2 ≤ length file → Copies file out out 2 0
copies_first file out h = record { s = 0; d = 0; P = []; stands = stands_first file h; put = refl; count = refl }

module _ (file out₀ out : List ℕ) (n i k : ℕ) (c : Copies file out₀ out i k) (h : Counts n (fields_told file)) where
  -- all pages are there
  pub copies_last : n ≤ k → out ≡ sets out₀ 0 (pages_told (fields_told file))
  copies_last l = go (fields_told file) h refl
    where
      go : (x : AnswerOf Told) → Counts n x → fields_told file ≡ x → out ≡ sets out₀ 0 (pages_told x)
      go (refusal a b) m e = absurd m
      go (result t) m e =
          let q = grown c.stands.turns c.s c.d c.P (drop i file) t (c.stands.left ∙ e) in
          c.put ∙ ap (sets out₀ 0) (all c.P q.more t.1 q.is (omega (arith, m, c.stands.full, c.count)))
        where
          all : (P Q R : List ℕ) → R ≡ P ++ Q → length R ≤ length P → P ≡ R
          all P [] R e l = sym (append-nil P) ∙ sym e
          all P (x ∷ Q) R e l = absurd (omega (arith, ap length e, length-append P (x ∷ Q)))

  abbrev g : List ℕ
  g = drop i file

  abbrev next : ℕ
  next = i + 3 + length_in g

  abbrev kind : FieldKind
  kind = kind_at (sort_in g) file i

  -- the field at offset i is one that the first pass has read
  field_is : field_at file i c.s ≡ result (field_of next kind)
  field_is = go (field_at file i c.s) refl
    where
      go : (x : AnswerOf Field) → field_at file i c.s ≡ x → x ≡ result (field_of next kind)
      go (refusal a b) e = absurd (not_refused n a b (fields_told file) h (stands_refused file i c.s c.d c.P c.stands a b e))
      go (result f) e = ap result (read_whole file i c.s f e).1

  -- its head and its contents are in the file
  pub copies_within : (i + 3 ≤ length file) × (i + 3 + length_in g ≤ length file)
  copies_within =
      let w = further file i c.s c.d c.P c.stands next kind field_is in (omega (arith, w.1), w.1)

  page_sort : get_or file i 0 ≡ 0x01 → kind ≡ Page (i + 3)
  unfolding kind_at
  page_sort e = ap (λ (t : Sort). kind_at t file i) (sort_at c.s i file file page (sort_01 (get_or file i 0) e))

  -- it is a page
  paged : get_or file i 0 ≡ 0x01 → Paged file i c.s c.d c.P c.stands next kind field_is (i + 3)
  paged e = after_page file i c.s c.d c.P c.stands next kind field_is (i + 3) (page_sort e)

  pub page_there : get_or file i 0 ≡ 0x01 → i + 3 + 256 ≤ length file
  page_there e = (paged e).room

  pub copies_page : (o : List ℕ) → get_or file i 0 ≡ 0x01 → o ≡ sets out (256 * k) (take 256 (drop (i + 3) file))
      → Copies file out₀ o (i + 259) (k + 1)
  copies_page o e eo =
      let p = take 256 (drop (i + 3) file) in
      let w = paged e in
      let next_is : i + 3 + length_in g ≡ i + 259 = omega (arith, w.size) in
      subst (λ (j : ℕ). Copies file out₀ o j (k + 1)) next_is
      record {
        s = c.s + 1;
        d = c.d;
        P = c.P ++ p;
        stands = w.after;
        put = eo ∙ ap (λ (q : List ℕ). sets q (256 * k) p) c.put ∙ sets_then out₀ 0 c.P p (256 * k) (omega (arith, c.stands.full, c.count));
        count = omega (arith, c.count, w.one);
      }

  -- it is another one; the end is not met before all pages are copied
  pub copies_other : (r : ℕ) → r ≡ length_in g → ¬ (get_or file i 0 ≡ 0x01) → k < n → Copies file out₀ out (i + (3 + r)) k
  unfolding kind_at
  copies_other r er ne l =
      let next_is : i + 3 + length_in g ≡ i + (3 + r) = omega (arith, er) in subst (λ (j : ℕ). Copies file out₀ out j k) next_is (go (sort_in g) refl)
    where
      go : (t : Sort) → sort_in g ≡ t → Copies file out₀ out next k
      go device e =
          let w = after_device file i c.s c.d c.P c.stands next kind field_is _ (ap (λ (u : Sort). kind_at u file i) e) in
          record { s = c.s + 1; d = _; P = c.P; stands = w.0; put = c.put; count = omega (arith, c.count, w.1) }
      go page e = absurd (ne (subst (λ (u : Sort). Tagged u (get_or file i 0)) (sym (sort_at c.s i file file (sort_of (get_or file i 0)) refl) ∙ e) (tagged (get_or file i 0))))
      go end e =
          let a = after_end_lem file i c.s c.d c.P c.stands next kind field_is (ap (λ (u : Sort). kind_at u file i) e) in
          absurd (omega (arith, end_counts n c.d c.P (drop next file) (fields_told file) h a.0, c.stands.full, c.count))
      go passed_over e = record {
        s = c.s;
        d = c.d;
        P = c.P;
        stands = after_skipped file i c.s c.d c.P c.stands next kind field_is (ap (λ (u : Sort). kind_at u file i) e);
        put = c.put;
        count = c.count;
      }
      go unknown e = absurd (subst T (sym (ap is_unknown e) ∙ (read_whole file i c.s (field_of next kind) field_is).0.known) tt)

-- ---- the whole file

-- a file's pages are whole
pub whole_pages : (file : List ℕ) (t : Told) → fields_told file ≡ result t → length t.1 ≡ 256 * (length t.1 / 256)
unfolding fields_told
whole_pages file t e =
    let q = grown (length file) 0 0 [] (drop 2 file) t e in
    let l : length t.1 ≡ 256 * q.pages = ap length q.is ∙ q.whole in omega arith

module _ (file out : List ℕ) (s : true ≡ starts_with eqb file start) where
  abbrev count : AnswerOf Told → AnswerOf (ℕ × ℕ)
  count x = and_then x (λ (t : Told). result (counted t))

  told_is : file_told file ≡ fields_told file
  unfolding file_told
  told_is = rw (right_start file s) refl

  pub counts : (d n : ℕ) → result (d, n) ≡ count (fields_told file) → Counts n (fields_told file)
  counts d n e = go (fields_told file) refl e
    where
      go : (x : AnswerOf Told) → fields_told file ≡ x → result (d, n) ≡ count x → Counts n x
      go (result t) ex ec = let pr : (d, n) ≡ counted t = cc in let q : n ≡ length t.1 / 256 = ap (λ (u : ℕ × ℕ). u.1) pr in whole_pages file t ex ∙ ap (λ (k : ℕ). 256 * k) (sym q)
      go (refusal a b) ex ec = not_a_result a b (d, n) (sym ec)

  abbrev Left : AnswerOf (ℕ × ℕ) → List ℕ → Type 0
  Left a o = (a ≡ read_file_answer file out) × (o ≡ read_file_leaves file out)

  leaves : (a : AnswerOf (ℕ × ℕ)) (o : List ℕ) → a ≡ read_file_answer file out → o ≡ after a out (at_start (pages_told (fields_told file)) out) → Left a o
  leaves a o ea eo = (
    ea,
    eo ∙ ap (λ (x : AnswerOf (ℕ × ℕ)). after x out (at_start (pages_told (fields_told file)) out)) ea
        ∙ ap (λ (x : AnswerOf Told). after (read_file_answer file out) out (at_start (pages_told x) out)) (sym told_is),
  )

  pub told_refused : (a b : ℕ) → refusal a b ≡ count (fields_told file) → Left (refusal a b) out
  unfolding read_file_answer
  told_refused a b e = leaves (refusal a b) out (go (fields_told file) told_is e) refl
    where
      go : (x : AnswerOf Told) → file_told file ≡ x → refusal a b ≡ count x → refusal a b ≡ read_file_answer file out
      go (result t) ex ec = not_a_result a b (counted t) ec
      go (refusal c d) ex ec = ec ∙ sym (ap (λ (x : AnswerOf Told). and_then x (λ (t : Told). answer (refuse (ltb (length out) (length t.1)) 3 0 ∷ []) (counted t))) ex)

  answered : (d n : ℕ) → result (d, n) ≡ count (fields_told file) → read_file_answer file out ≡ answer (refuse (ltb (length out) (256 * n)) 3 0 ∷ []) (d, n)
  unfolding read_file_answer
  answered d n e = go (fields_told file) refl told_is e
    where
      go : (x : AnswerOf Told) → fields_told file ≡ x → file_told file ≡ x → result (d, n) ≡ count x → read_file_answer file out ≡ answer (refuse (ltb (length out) (256 * n)) 3 0 ∷ []) (d, n)
      go (result t) eg ex ec =
          let pr : (d, n) ≡ counted t = cc in
          let p : d ≡ t.0 = ap (λ (u : ℕ × ℕ). u.0) pr in
          let q : n ≡ length t.1 / 256 = ap (λ (u : ℕ × ℕ). u.1) pr in
          let l : length t.1 ≡ 256 * n = whole_pages file t eg ∙ ap (λ (k : ℕ). 256 * k) (sym q) in
          ap (λ (x : AnswerOf Told). and_then x (λ (t : Told). answer (refuse (ltb (length out) (length t.1)) 3 0 ∷ []) (counted t))) ex
          ∙ ap (λ (k : ℕ). answer (refuse (ltb (length out) k) 3 0 ∷ []) (counted t)) l
          ∙ ap₂ (λ (i j : ℕ). answer (refuse (ltb (length out) (256 * n)) 3 0 ∷ []) (i, j)) (sym p) (sym q)
      go (refusal a b) eg ex ec = not_a_result a b (d, n) (sym ec)

  pub told_short : (d n : ℕ) → result (d, n) ≡ count (fields_told file) → length out < 256 * n → Left (refusal 3 0) out
  told_short d n e h = leaves (refusal 3 0) out (sym (answered d n e ∙ first_refused (less (length out) (256 * n)) 3 0 [] (d, n) h)) refl

  pub told_done : (d n : ℕ) (o : List ℕ) → result (d, n) ≡ count (fields_told file) → 256 * n ≤ length out
      → o ≡ sets out 0 (pages_told (fields_told file)) → Left (result (d, n)) o
  unfolding answer
  told_done d n o e h eo =
      leaves (result (d, n)) o (sym (answered d n e ∙ passed (less (length out) (256 * n)) 3 0 [] (d, n) h))
      (eo ∙ sets_at_start out (pages_told (fields_told file)) (fit (fields_told file) (counts d n e)))
    where
      fit : (x : AnswerOf Told) → Counts n x → length (pages_told x) ≤ length out
      fit (result t) k = omega (arith, k)
      fit (refusal a b) k = absurd k

-- a wrong start
pub start_refused : (file out : List ℕ) → false ≡ starts_with eqb file start → (refusal 14 0 ≡ read_file_answer file out) × (out ≡ read_file_leaves file out)
unfolding read_file_answer file_told
start_refused file out e = rw (wrong_start file e) (refl, refl)
