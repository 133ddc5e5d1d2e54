-- What read Inspect knows of a page once a half of its words is read, and both, and the answers that follow. Assumes nothing.
use mathlib.Core.Bool.{Bool, false}
use mathlib.Core.List.{List, [], ◌++◌, append_assoc, append-nil}
use mathlib.Core.Logic.{inl}
use mathlib.Core.Path.{◌≡◌, refl, sym, ap, ap₂, ◌∙◌}
use Prim.Native.Nat.{ℕ, zero, ◌+◌, ◌-◌, ◌*◌, ◌/◌, ◌%◌, ◌≤◌, ◌<◌}
use native.Mathlib.Omega.{arith}
use borrow.Rule.Slice.PartMut.{put_mid}
use lib.ListN.{length, take, drop, get_or, set, replicate, length-append, length-drop, length-set, length-replicate, drop_of_length-le}
use lib.Seq.{take_all, take_at, drop_at, drop-drop, length-take-le}
use Rattle.cells.specs.Cells.{some_set}
use Rattle.cells.specs.Bytes.{bits, bytes, Bytes, at_start}
use Rattle.answer.specs.Answer.{Answer, result, refusal, answer}
use Rattle.answer.proofs.Chains.{still_refused}
use Rattle.window.specs.Words.{page_words, put_cells}
use Rattle.window.proofs.Words.{length_page_words, length_put_cells}
use Rattle.window.proofs.Buffers.{buffer_clear, buffer_carry, buffer_seam}
use Rattle.word.specs.Word.{legal}
use Rattle.rows.specs.declared.shape.Shape.{Shape}
use Rattle.rows.specs.Page.{shape_of, state_inspect, record_length, lowest}
use Rattle.rows.specs.Code.{longest, found_of, judged_of, record_of, AllJudgedOf, SecondRoundOf}
use Rattle.rows.proofs.Lowest.{lowest_le, lowest_front, lowest_back, passed_before}
use Rattle.page.specs.Terms.{RecordHeaderOf}
use Rattle.page.specs.Answer.{header_checks, record_checks, read_checks}
use Rattle.page.proofs.Headed.{row_bad}
use Rattle.page.proofs.CodeAnswers.{record_passed, second_passed, length_judged, read_taken, read_3, read_7, read_9}
use Rattle.inspect.specs.Rows.{inspect_code, read_all_up_to, unwalked_all}
use Rattle.inspect.proofs.Rows.{length_unwalked_all, read_all_up_to_append, unwalked_all_append, read_all_most, read_all_cells}
use Rattle.inspect.proofs.Halves.{Halved, halved_found, lent, back_words, whole, lent_is, Words-front, Words-back, words_split}

abbrev blank : List ℕ
blank = replicate 252 0

-- bytes put at the start of an output, and others after them
handed_out : (out x y : List ℕ) (j : ℕ) → length x ≡ j → j + length y ≤ length out
    → take j (at_start x out)
    ++ (at_start y (take (length (at_start x out) - j) (drop j (at_start x out))) ++ drop (length (at_start x out) - j) (drop j (at_start x out)))
    ≡ at_start (x ++ y) out
unfolding at_start
handed_out out x y j e h =
    let d = drop (length x) out in
    let w = x ++ d in
    let t : take j w ≡ x = take_at x d j e in
    let r : drop j w ≡ d = drop_at x d j e in
    let n : length w - j ≡ length d = omega (arith, length-append x d) in
    let a : take (length w - j) d ≡ d = take_all (length w - j) d (omega arith) in
    let z : drop (length w - j) d ≡ [] = drop_of_length-le d {i = length w - j} (omega arith) in
    let g : length x + length y ≡ length (x ++ y) = sym (length-append x y) in
    ap₂ (λ (p q : List ℕ). p ++ ((y ++ drop (length y) (take (length w - j) q)) ++ drop (length w - j) q)) t r
    ∙ ap₂ (λ (p q : List ℕ). x ++ ((y ++ drop (length y) p) ++ q)) a z
    ∙ ap (λ (p : List ℕ). x ++ p) (append-nil (y ++ drop (length y) d) ∙ ap (λ (p : List ℕ). y ++ p) (drop-drop (length y) (length x) out ∙ ap (λ (i : ℕ). drop i out) g))
    ∙ sym (append_assoc x y (drop (length (x ++ y)) out))

-- ---- what is known of the page

-- the answer, whatever the output
abbrev Answers : Shape → List ℕ → Answer → Type 0
Answers s P a = (out : List ℕ) → answer (read_checks inspect_code s P out) (record_length P) ≡ a

-- the bits of the first half where those of k bytes are wanted, and of the second where the first gave n
abbrev front_bits : List ℕ → ℕ → List Bool
front_bits P k = read_all_up_to (8 * k) (page_words P 44)

abbrev back_bits : Shape → List ℕ → ℕ → ℕ → List Bool
back_bits s P k n = read_all_up_to (8 * k - n) (back_words s P)

-- the second buffer begins with the byte in which the first half's bits end
abbrev pub carried : List ℕ → ℕ → List ℕ
carried front n = set blank 0 (get_or front (n / 8) 0)

-- its length, state and header have passed, and its record has k bytes
pub record Headed (s : Shape) (P : List ℕ) (k : ℕ) : Type 0 where
  pub halved : Halved s
  pub of_bytes : Bytes P
  pub header : RecordHeaderOf inspect_code s P
  pub sized : k ≡ record_length P

-- ... the words of its first half are legal so, and their bits, n of them, are in a buffer
pub record Front (s : Shape) (P : List ℕ) (k n : ℕ) (front : List ℕ) : Type 0 where
  pub headed : Headed s P k
  pub all_legal : lowest legal (unwalked_all (8 * k) (page_words P 44)) ≡ 44
  pub counted : n ≡ length (front_bits P k)
  pub held : front ≡ put_cells blank 0 (front_bits P k)

-- ... and so are those of its second half, with m bits in another
pub record Both (s : Shape) (P : List ℕ) (k n : ℕ) (front : List ℕ) (m : ℕ) (back : List ℕ) : Type 0 where
  pub first : Front s P k n front
  pub judged : AllJudgedOf inspect_code s P
  pub counted : m ≡ length (back_bits s P k n)
  pub held : back ≡ put_cells (carried front n) (n % 8) (back_bits s P k n)

-- from what the code found
pub headed_found : (s : Shape) (P : List ℕ) (k : ℕ) → s ≡ shape_of P → Bytes P
    → ◌≡◌ {A = Answer} (result 0) (answer (header_checks state_inspect (longest inspect_code s) s P) 0) → k ≡ record_length P → Headed s P k
headed_found s P k e b h l = record { halved = halved_found s _ e; of_bytes = b; header = record_passed inspect_code s P h; sized = l }

-- such a page has a first half
pub headed_large : (s : Shape) (P : List ℕ) → s ≡ shape_of P
    → ◌≡◌ {A = Answer} (result 0) (answer (header_checks state_inspect (longest inspect_code s) s P) 0) → 256 ≤ length P
headed_large s P e h = whole (halved_found s _ e) P (record_passed inspect_code s P h).0

-- what the check of its header refuses, the reader refuses
pub read_refused : (s : Shape) (P : List ℕ) (n i : ℕ)
    → ◌≡◌ {A = Answer} (refusal n i) (answer (header_checks state_inspect (longest inspect_code s) s P) 0) → Answers s P (refusal n i)
unfolding read_checks record_checks
read_refused s P n i e out = still_refused (header_checks state_inspect (longest inspect_code s) s P) _ 0 (record_length P) n i (sym e)

module _ {s : Shape} {P : List ℕ} {k : ℕ} (f : Headed s P k) where
  pub length_most : k ≤ 495
  length_most = omega (arith, f.sized, f.header.2, f.halved.sound.few)

  -- the words that 7 judges are those of the halves, and so are the bits
  judged_is : judged_of inspect_code s P
      ≡ unwalked_all (8 * k) (page_words P 44) ++ unwalked_all (8 * k - length (front_bits P k)) (back_words s P)
  judged_is =
      ap₂ (λ (j : ℕ) (ws : List (List Bool)). unwalked_all (8 * j) ws) (sym f.sized) (words_split s f.halved P)
      ∙ unwalked_all_append (8 * k) (page_words P 44) (back_words s P)

  found_is : found_of inspect_code s P ≡ front_bits P k ++ back_bits s P k (length (front_bits P k))
  found_is =
      ap₂ (λ (j : ℕ) (ws : List (List Bool)). read_all_up_to (8 * j) ws) (sym f.sized) (words_split s f.halved P)
      ∙ read_all_up_to_append (8 * k) (page_words P 44) (back_words s P)

  length_front : length (unwalked_all (8 * k) (page_words P 44)) ≡ 44
  length_front = length_unwalked_all (8 * k) (page_words P 44) ∙ length_page_words P 44

  count_judged : length (judged_of inspect_code s P) ≡ s.words
  count_judged = length_judged inspect_code length_unwalked_all s P []

  -- a word, of lowest index, that is not legal so
  word_bad : (i : ℕ) → i ≡ lowest legal (judged_of inspect_code s P) → i < s.words → Answers s P (refusal 7 i)
  word_bad i e l out =
      (read_7 inspect_code length_unwalked_all s P out i).1
      (f.header, (row_bad legal (judged_of inspect_code s P) i).0 (omega (arith, count_judged), e))

  -- the first half read up to word i
  module _ (i : ℕ) (e : i ≡ lowest legal (unwalked_all (8 * k) (page_words P 44))) where
    pub front_bad : i < 44 → Answers s P (refusal 7 i)
    front_bad l =
        let ws = unwalked_all (8 * k) (page_words P 44) in
        let first = lowest_front legal ws (unwalked_all (8 * k - length (front_bits P k)) (back_words s P)) (omega (arith, e, length_front)) in
        word_bad i (e ∙ sym (ap (lowest legal) judged_is ∙ first)) (omega (arith, f.halved.least))

    pub front_read : (n : ℕ) (front : List ℕ) → n ≡ length (read_all_up_to (8 * k) (page_words P i))
        → front ≡ put_cells blank 0 (read_all_up_to (8 * k) (page_words P i)) → 44 ≤ i → Front s P k n front
    front_read n front c d l =
        let most = lowest_le legal (unwalked_all (8 * k) (page_words P 44)) in
        let all : i ≡ 44 = omega (arith, e, most, length_front) in
        record {
          headed = f;
          all_legal = omega (arith, e, most, length_front);
          counted = c ∙ ap (λ (j : ℕ). length (read_all_up_to (8 * k) (page_words P j))) all;
          held = d ∙ ap (λ (j : ℕ). put_cells blank 0 (read_all_up_to (8 * k) (page_words P j))) all;
        }

-- ---- the first half read

module _ {s : Shape} {P : List ℕ} {k n : ℕ} {front : List ℕ} (f : Front s P k n front) where
  pub front_length : length front ≡ 252
  front_length = ap length f.held ∙ length_put_cells blank 0 (front_bits P k) ∙ length-replicate 252 zero

  pub front_wanted : n ≤ 8 * k
  front_wanted = omega (arith, f.counted, read_all_most (8 * k) (page_words P 44))

  pub front_few : n ≤ 1980
  front_few =
      omega (arith, f.counted, read_all_cells (8 * k) (page_words P 44) (Words-front f.headed.halved P f.headed.header.0), length_page_words P 44)

  carried_is : carried front n ≡ set blank 0 (get_or (put_cells blank 0 (front_bits P k)) (n / 8) 0)
  carried_is = ap (λ (l : List ℕ). set blank 0 (get_or l (n / 8) 0)) f.held

  carried_bits : carried front n ≡ put_cells blank 0 (drop (8 * (n / 8)) (front_bits P k))
  carried_bits =
      carried_is
      ∙ buffer_carry 252 (front_bits P k) (omega (arith, f.counted, front_few)) (n / 8) (omega (arith, f.counted)) (omega (arith, f.counted))
      (omega (arith, front_few))

  -- after those bits it holds 0
  pub carried_clear : some_set (drop (n % 8) (bits (carried front n))) ≡ false
  carried_clear =
      let r = drop (8 * (n / 8)) (front_bits P k) in
      let o : n % 8 ≡ length r = omega (arith, f.counted, length-drop (8 * (n / 8)) (front_bits P k)) in
      ap₂ (λ (j : ℕ) (q : List ℕ). some_set (drop j (bits q))) o carried_bits ∙ buffer_clear 252 r (omega (arith, o))

  lent_there : lent P ≡ drop 253 P
  lent_there = lent_is f.headed.halved P f.headed.header.0

  -- the second half read up to word j
  module _ (j : ℕ) (e : j ≡ lowest legal (unwalked_all (8 * k - n) (page_words (lent P) (s.words - 44)))) where
    lowest_is : lowest legal (judged_of inspect_code s P) ≡ 44 + j
    lowest_is =
        let ws = unwalked_all (8 * k) (page_words P 44) in
        let here = e ∙ ap (λ (q : List ℕ). lowest legal (unwalked_all (8 * k - n) (page_words q (s.words - 44)))) lent_there in
        ap (lowest legal) (judged_is f.headed)
        ∙ lowest_back legal ws _ (f.all_legal ∙ sym (length_front f.headed))
        ∙ ap₂ (λ (a c : ℕ). a + c) (length_front f.headed)
        (ap (λ (a : ℕ). lowest legal (unwalked_all (8 * k - a) (back_words s P))) (sym f.counted) ∙ sym here)

    pub back_bad : j < s.words - 44 → Answers s P (refusal 7 (44 + j))
    back_bad l = word_bad f.headed (44 + j) (sym lowest_is) (omega (arith, f.headed.halved.least))

    pub back_read : (m : ℕ) (back : List ℕ) → m ≡ length (read_all_up_to (8 * k - n) (page_words (lent P) j))
        → back ≡ put_cells (carried front n) (n % 8) (read_all_up_to (8 * k - n) (page_words (lent P) j)) → s.words - 44 ≤ j
        → Both s P k n front m back
    back_read m back c d l =
        let judged = judged_of inspect_code s P in
        let all : j ≡ s.words - 44 = omega (arith, lowest_is, lowest_le legal judged, count_judged f.headed, f.headed.halved.least) in
        let there : read_all_up_to (8 * k - n) (page_words (lent P) j) ≡ back_bits s P k n =
        ap₂ (λ (q : List ℕ) (i : ℕ). read_all_up_to (8 * k - n) (page_words q i)) lent_there all in
        record {
          first = f;
          judged = λ i q. passed_before legal judged i (omega (arith, lowest_is, f.headed.halved.least));
          counted = c ∙ ap length there;
          held = d ∙ ap (put_cells (carried front n) (n % 8)) there;
        }

-- ---- both read

module _ {s : Shape} {P : List ℕ} {k n : ℕ} {front : List ℕ} {m : ℕ} {back : List ℕ} (b : Both s P k n front m back) where
  abbrev header : RecordHeaderOf inspect_code s P
  header = b.first.headed.header

  pub back_length : length back ≡ 252
  back_length =
      ap length b.held ∙ length_put_cells (carried front n) (n % 8) (back_bits s P k n)
      ∙ length-set blank 0 (get_or front (n / 8) 0) ∙ length-replicate 252 zero

  both : found_of inspect_code s P ≡ front_bits P k ++ back_bits s P k n
  both = found_is b.first.headed ∙ ap (λ (a : ℕ). front_bits P k ++ back_bits s P k a) (sym b.first.counted)

  counted : n + m ≡ length (found_of inspect_code s P)
  counted = omega (arith, ap length both, length-append (front_bits P k) (back_bits s P k n), b.first.counted, b.counted)

  pub back_few : m ≤ 1980
  back_few =
      let h = b.first.headed.halved in
      omega (
        arith,
        b.counted,
        read_all_cells (8 * k - n) (back_words s P) (Words-back h P header.0),
        length_page_words (drop 253 P) (s.words - 44),
        h.sound.few,
      )

  pub inspect_ends : n + m < 8 * k → Answers s P (refusal 9 0)
  inspect_ends q out =
      (read_9 inspect_code length_unwalked_all s P out 0).1 (header, b.judged, inl (omega (arith, counted, b.first.headed.sized)), refl)

  module _ (q : 8 * k ≤ n + m) (out : List ℕ) where
    inspect_round : SecondRoundOf inspect_code s P
    inspect_round = second_passed inspect_code s P b.first.headed.of_bytes header b.judged (omega (arith, counted, b.first.headed.sized)) refl

    pub inspect_output : length out < k → answer (read_checks inspect_code s P out) (record_length P) ≡ refusal 3 0
    inspect_output o =
        (read_3 inspect_code length_unwalked_all s P out 0 inspect_round.of_bytes).1 (inspect_round, omega (arith, b.first.headed.sized), refl)

    pub inspect_done : k ≤ length out → answer (read_checks inspect_code s P out) (record_length P) ≡ result k
    inspect_done o =
        (read_taken inspect_code length_unwalked_all s P out k inspect_round.of_bytes).1
        (inspect_round, omega (arith, b.first.headed.sized), b.first.headed.sized)

    -- the record's bytes in the two buffers
    inspect_bytes : take (n / 8) front ++ take (k - n / 8) back ≡ record_of inspect_code s P
    unfolding record_of
    inspect_bytes =
        let f = b.first in
        let c = f.counted in
        let o : n % 8 ≡ length (front_bits P k) - 8 * (n / 8) = omega (arith, c) in
        ap₂ (λ (x y : List ℕ). take (n / 8) x ++ take (k - n / 8) y) f.held
        (b.held ∙ ap₂ (λ (x : List ℕ) (a : ℕ). put_cells x a (back_bits s P k n)) (carried_is f) o)
        ∙ buffer_seam 252 (front_bits P k) (omega (arith, c, front_few f)) (n / 8) (omega (arith, c)) (omega (arith, c)) (omega (arith, front_few f))
        k (back_bits s P k n) (omega (arith, front_wanted f)) (omega (arith, c, b.counted)) (omega (arith, back_few))
        ∙ ap₂ bytes f.headed.sized (sym both)

    -- ... handed out
    pub inspect_out : (first : List ℕ) → k ≤ length out → first ≡ at_start (take (n / 8) front) out
        → put_mid (n / 8) (length first - n / 8) first (at_start (take (k - n / 8) back) (take (length first - n / 8) (drop (n / 8) first)))
        ≡ at_start (record_of inspect_code s P) out
    inspect_out first o d =
        let f = b.first in
        ap
        (λ (l : List ℕ). put_mid (n / 8) (length l - n / 8) l (at_start (take (k - n / 8) back) (take (length l - n / 8) (drop (n / 8) l))))
        d
        ∙ handed_out out (take (n / 8) front) (take (k - n / 8) back) (n / 8)
        (length-take-le (n / 8) front (omega (arith, front_length f, front_few f)))
        (omega (arith, length-take-le (k - n / 8) back (omega (arith, back_length, back_few)), front_wanted f))
        ∙ ap (λ (l : List ℕ). at_start l out) inspect_bytes
