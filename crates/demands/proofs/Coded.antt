-- Pages that are twice written, by any code that obeys the laws of a code, and over any sound shape of page: the step ahead of the writer, the
-- outcome, and what a page that the writer or the reader takes comes from.
-- Assumes nothing.
use mathlib.Core.Bool.{Bool, true, false}
use mathlib.Core.List.{List, [], ◌∷◌}
use mathlib.Core.Path.{◌≡◌, refl, sym, ap, ap₂, ◌∙◌, subst}
use Prim.Native.Nat.{ℕ, suc, ◌+◌, ◌*◌, ◌/◌, ◌%◌, ◌≤◌, ◌<◌}
use native.Mathlib.Omega.{arith}
use borrow.Author.Tests.{eqb-true, eqb-false}
use lib.Dec.{T, eqb}
use lib.ListN.{length, take, drop, get_or, length-take, take-append-drop}
use Rattle.cells.specs.Cells.{bit, kept}
use Rattle.cells.specs.Bytes.{bits, bytes, Bytes, zeros}
use Rattle.cells.proofs.Bytes.{length_bits, length_bytes, bytes_bits, Bytes-bytes, Bytes-drop}
use Rattle.cells.proofs.Fits.{bits_front, bytes_front}
use Rattle.cells.proofs.Kept.{kept_bits}
use Rattle.window.specs.Words.{Words, page_words, page_of}
use Rattle.window.proofs.Words.{length_page_words}
use Rattle.word.specs.Word.{legal}
use Rattle.rows.specs.declared.shape.Shape.{Shape}
use Rattle.rows.specs.Page.{state, state_first, byte1, byte2, tail, record_length, FirstRoundOf}
use Rattle.rows.specs.Code.{Code, longest, sure, room_ahead, found_of, judged_of, ReadyOf, FitsOf, SecondRoundOf, written_of, outcome_of, record_of}
use Rattle.rows.proofs.EachWord.{Each, each_from, each_at, each_word, Row}
use Rattle.demands.proofs.Laws.{CodeLaws, Told, AheadOf}
use Rattle.rows.proofs.Shapes.{word_bytes, Sound}
use Rattle.demands.proofs.Laid.{laid, laid_words, laid_length, laid_tail, laid_Bytes, laid_open, laid_row, length_tail, laid_put, laid_own, laid_round}
use Rattle.demands.proofs.Kept.{kept_laid}

-- lists of the same length that differ do so at an index
differ_at : (a b : List ℕ) → length a ≡ length b → (a ≡ b → ⊥) → (i : ℕ) × (i < length a) × (get_or a i 0 ≡ get_or b i 0 → ⊥)
differ_at [] [] e h = absurd (h refl)
differ_at [] (y ∷ b) e h = absurd (omega arith)
differ_at (x ∷ a) [] e h = absurd (omega arith)
differ_at (x ∷ a) (y ∷ b) e h = go (eqb x y) refl (differ_at a b (omega arith))
  where
    go : (t : Bool) → eqb x y ≡ t → ((a ≡ b → ⊥) → (i : ℕ) × (i < length a) × (get_or a i 0 ≡ get_or b i 0 → ⊥))
        → (i : ℕ) × (i < length (x ∷ a)) × (get_or (x ∷ a) i 0 ≡ get_or (y ∷ b) i 0 → ⊥)
    go true t r =
        let d = r (λ q. h (ap₂ (λ (z : ℕ) (l : List ℕ). z ∷ l) (eqb-true x y t) q)) in
        (suc d.0, omega (arith, d.1), d.2)
    go false t r = (0, omega arith, eqb-false x y t)

-- the first bytes of bits are those of the first bits
bytes_take : (k : ℕ) (l : List Bool) → 8 * k ≤ length l → bytes k l ≡ bytes k (take (8 * k) l)
bytes_take k l h =
    ap (bytes k) (sym (take-append-drop (8 * k) l))
    ∙ bytes_front k (take (8 * k) l) (drop (8 * k) l) (omega (arith, length-take (8 * k) l))

module _ {σ : Shape} (f : Sound σ) {c : Code} (laws : CodeLaws c) (told : Told c σ) {ahead : List ℕ → List ℕ} (before : AheadOf c ahead σ) where
  abbrev n : ℕ
  n = σ.words

  abbrev m : ℕ
  m = word_bytes σ

  module _ (P : List ℕ) (p : FirstRoundOf σ P) where
    abbrev ws : List (List Bool)
    ws = page_words P n

    abbrev prep : List (List Bool)
    prep = c.prepare ws

    abbrev t : List ℕ
    t = tail n P

    row_of : Row n ws
    row_of = laid_row f P p.sized

    tail_Bytes : Bytes t
    tail_Bytes = Bytes-drop (3 + m) P p.of_bytes

    -- ---- the step ahead of the writer

    prepared : Words prep × (length prep ≡ length ws) × Each c.takes prep
    prepared = laws.prepared ws row_of.1 (each_word legal P n p.words_pass)

    pub prep_row : Row n prep
    prep_row = (prepared.1 ∙ row_of.0, prepared.0)

    pub ahead_is : ahead P ≡ laid c.over 0 0 prep t
    ahead_is =
        before P p ∙ laid_put f P p.of_bytes p.sized c.over 0 prep laws.states.0 (omega arith) prep_row

    pub ahead_ready : ReadyOf c σ (ahead P)
    ahead_ready =
        subst (ReadyOf c σ) (sym ahead_is)
        (laid_open f c.over c.takes prep t laws.states.0 prep_row prepared.2 tail_Bytes p.tail_zero (length_tail f P p.sized))

    pub ahead_words : page_words (ahead P) n ≡ prep
    ahead_words = ap (λ (F : List ℕ). page_words F n) ahead_is ∙ laid_words f c.over 0 0 prep prep_row t

    ahead_tail : tail n (ahead P) ≡ t
    ahead_tail = ap (tail n) ahead_is ∙ laid_tail f c.over 0 0 prep prep_row t

    pub ahead_kept : T (kept (bits P) (bits (ahead P)))
    ahead_kept =
        rw ahead_is (subst (λ (Q : List ℕ). T (kept (bits Q) (bits (laid c.over 0 0 prep t)))) (laid_round f state_first legal P p)
        (kept_laid f state_first c.over 0 0 ws prep t row_of prep_row laws.states_up.0 (laws.prepare_keeps ws)))

    pub ahead_clears_none : (i b : ℕ) → T (bit (get_or P i 0) b) → T (bit (get_or (ahead P) i 0) b)
    ahead_clears_none = kept_bits P (ahead P) (p.sized ∙ sym ahead_ready.sized) p.of_bytes ahead_kept

    -- a short record fits
    pub always_in : (R : List ℕ) → Bytes R → length R ≤ sure c σ → FitsOf c σ R P
    always_in R b h = record {
      of_bytes = b;
      enough =
          let g : length (bits R) ≤ c.least * length prep = rw prep_row.0 (omega (arith, length_bits R)) in
          omega (arith, length_bits R, laws.always_in prep (bits R) prepared.0 prepared.2 g);
    }

    -- ---- the outcome

    module _ (R : List ℕ) (r : FitsOf c σ R P) where
      abbrev vs : List (List Bool)
      vs = c.put prep (bits R)

      abbrev O : List ℕ
      O = outcome_of c σ P R

      put_row : Row n vs
      put_row = let w = laws.same_words prep (bits R) prepared.0 in (w.1 ∙ prep_row.0, w.0)

      pub never_in : length R ≤ longest c σ
      never_in =
          let g : c.room prep (bits R) ≤ c.most * n = rw prep_row.0 at (laws.at_most prep (bits R) prepared.0) in
          omega (arith, g, r.enough)

      small : length R < 65536
      small = omega (arith, never_in, told)

      -- the length, low byte and high byte
      abbrev low : ℕ
      low = length R % 256

      abbrev high : ℕ
      high = length R / 256

      pub outcome_is : O ≡ laid c.into low high vs t
      unfolding outcome_of
      outcome_is = laid_put f P p.of_bytes p.sized c.into (length R) vs laws.states.1 small put_row

      -- writing over what the step ahead leaves gives the outcome
      pub written_is : written_of c σ (ahead P) R ≡ O
      unfolding written_of
      written_is =
          let q = ahead_ready in
          let row = laws.same_words (page_words (ahead P) n) (bits R) (laid_row f (ahead P) q.sized).1 in
          laid_put f (ahead P) q.of_bytes q.sized c.into (length R) (c.put (page_words (ahead P) n) (bits R))
          laws.states.1 small (row.1 ∙ (laid_row f (ahead P) q.sized).0, row.0)
          ∙ ap₂ (λ (us : List (List Bool)) (u : List ℕ). laid c.into low high (c.put us (bits R)) u) ahead_words ahead_tail
          ∙ sym outcome_is

      pub outcome_sized : length O ≡ σ.size
      outcome_sized = ap length outcome_is ∙ laid_length f c.into low high vs put_row t ∙ length_tail f P p.sized

      pub outcome_Bytes : Bytes O
      outcome_Bytes = subst Bytes (sym outcome_is) (laid_Bytes f c.into low high vs put_row t laws.states.1 (omega arith) (omega (arith, small)) tail_Bytes)

      pub outcome_state : state O ≡ c.into
      unfolding page_of
      outcome_state = ap state outcome_is

      pub outcome_byte1 : byte1 O ≡ low
      unfolding page_of
      outcome_byte1 = ap byte1 outcome_is

      pub outcome_byte2 : byte2 O ≡ high
      unfolding page_of
      outcome_byte2 = ap byte2 outcome_is

      pub length_back : record_length O ≡ length R
      length_back = omega (arith, outcome_byte1, outcome_byte2)

      pub outcome_tail : T (zeros (tail n O))
      outcome_tail = rw (ap (tail n) outcome_is ∙ laid_tail f c.into low high vs put_row t) p.tail_zero

      pub outcome_words : page_words O n ≡ vs
      outcome_words = ap (λ (X : List ℕ). page_words X n) outcome_is ∙ laid_words f c.into low high vs put_row t

      pub writing_clears_none : (i b : ℕ) → T (bit (get_or (ahead P) i 0) b) → T (bit (get_or O i 0) b)
      writing_clears_none =
          kept_bits (ahead P) O (ahead_ready.sized ∙ sym outcome_sized) ahead_ready.of_bytes
          (rw (ahead_is, outcome_is)
          (kept_laid f c.over c.into low high prep vs t prep_row put_row laws.states_up.1
          (laws.put_keeps prep (bits R) prepared.0 prepared.2)))

      -- the record is read back
      wanted : 8 * record_length O ≡ length (bits R)
      wanted = ap (λ (x : ℕ). 8 * x) length_back ∙ sym (length_bits R)

      all_back : (take (length (bits R)) (c.found (length (bits R)) vs) ≡ bits R) × Each c.passes (c.judged (length (bits R)) vs)
          × (c.spare (length (bits R)) vs ≡ false)
      all_back = laws.read_back prep (bits R) prepared.0 prepared.2 (omega (arith, length_bits R, r.enough))

      found_is : found_of c σ O ≡ c.found (length (bits R)) vs
      found_is = ap₂ c.found wanted outcome_words

      enough : 8 * length R ≤ length (found_of c σ O)
      enough =
          let l = c.found (length (bits R)) vs in
          omega (arith, ap length found_is, ap length all_back.0, length-take (length (bits R)) l, length_bits R)

      pub record_back : record_of c σ O ≡ R
      unfolding record_of
      record_back =
          ap (λ (k : ℕ). bytes k (found_of c σ O)) length_back
          ∙ bytes_take (length R) (found_of c σ O) enough
          ∙ ap (bytes (length R)) (ap₂ (λ (k : ℕ) (l : List Bool). take k l) (sym (length_bits R)) found_is ∙ all_back.0)
          ∙ bytes_bits R r.of_bytes

      pub outcome_second : SecondRoundOf c σ O
      outcome_second = record {
        sized = outcome_sized;
        of_bytes = outcome_Bytes;
        in_state = outcome_state;
        length_most = omega (arith, length_back, never_in);
        tail_zero = outcome_tail;
        words_pass = λ i q.
            let e : judged_of c σ O ≡ c.judged (length (bits R)) vs = ap₂ c.judged wanted outcome_words in
            let l : length (c.judged (length (bits R)) vs) ≡ n = laws.same_judged (length (bits R)) vs ∙ put_row.0 in
            rw e (each_at c.passes (c.judged (length (bits R)) vs) all_back.1 i (omega (arith, l)));
        bits_enough = omega (arith, enough, length_back);
        spare_zero = ap₂ c.spare wanted outcome_words ∙ all_back.2;
      }

  -- different records leave different bytes
  pub differ : (P Q R S : List ℕ) → FirstRoundOf σ P → FirstRoundOf σ Q → FitsOf c σ R P → FitsOf c σ S Q → ¬ (R ≡ S)
      → (i : ℕ) × (i < σ.size) × ¬ (get_or (outcome_of c σ P R) i 0 ≡ get_or (outcome_of c σ Q S) i 0)
  differ P Q R S p q r s h =
      let l = outcome_sized P p R r in
      let d = differ_at (outcome_of c σ P R) (outcome_of c σ Q S) (l ∙ sym (outcome_sized Q q S s))
      (λ e. h (sym (record_back P p R r) ∙ ap (record_of c σ) e ∙ record_back Q q S s)) in
      (d.0, omega (arith, d.1), d.2)

  -- ---- where a page comes from: the first-round page of some legal words and of a page's last bytes

  module _ (page : List ℕ) (hp : Bytes page) (l : length page ≡ σ.size) (z : T (zeros (tail n page))) (us : List (List Bool)) (hu : Words us)
      (e : length us ≡ length (page_words page n)) (h : Each legal us) where
    abbrev first_of : List ℕ
    first_of = laid state_first 0 0 us (tail n page)

    us_row : Row n us
    us_row = (e ∙ length_page_words page n, hu)

    first_round_of : FirstRoundOf σ first_of
    first_round_of =
        laid_open f state_first legal us (tail n page) (omega arith) us_row h (Bytes-drop (3 + m) page hp) z (length_tail f page l)

    first_words_lem : page_words first_of n ≡ us
    first_words_lem = laid_words f state_first 0 0 us us_row (tail n page)

    first_tail : tail n first_of ≡ tail n page
    first_tail = laid_tail f state_first 0 0 us us_row (tail n page)

  -- each page that the writer takes is what the step ahead leaves of a first-round page
  pub ready_from : (F : List ℕ) → ReadyOf c σ F → (P : List ℕ) × FirstRoundOf σ P × (ahead P ≡ F)
  ready_from F q =
      let o = laws.ready_origin (page_words F n) (laid_row f F q.sized).1 (each_word c.takes F n q.words_pass) in
      let P = first_of F q.of_bytes q.sized q.tail_zero o.0 o.1 o.2 o.3 in
      let p = first_round_of F q.of_bytes q.sized q.tail_zero o.0 o.1 o.2 o.3 in (
        P,
        p,
        ahead_is P p
            ∙ ap₂ (λ (us : List (List Bool)) (u : List ℕ). laid c.over 0 0 us u)
            (ap c.prepare (first_words_lem F q.of_bytes q.sized q.tail_zero o.0 o.1 o.2 o.3) ∙ o.4)
            (first_tail F q.of_bytes q.sized q.tail_zero o.0 o.1 o.2 o.3)
            ∙ laid_round f c.over c.takes F q,
      )

  -- each page that the reader takes is an outcome
  module _ (page : List ℕ) (q : SecondRoundOf c σ page) where
    abbrev len : ℕ
    len = record_length page

    abbrev S : List ℕ
    S = record_of c σ page

    abbrev wanted_bits : List Bool
    wanted_bits = take (8 * len) (found_of c σ page)

    length_S : length S ≡ len
    unfolding record_of
    length_S = length_bytes len (found_of c σ page)

    bits_S : bits S ≡ wanted_bits
    unfolding record_of
    bits_S = bits_front len (found_of c σ page) q.bits_enough

    Bytes-S : Bytes S
    unfolding record_of
    Bytes-S = Bytes-bytes len (found_of c σ page)

    -- the two bytes of its length
    low_is : len % 256 ≡ byte1 page
    low_is = omega (arith, q.of_bytes 1)

    high_is : len / 256 ≡ byte2 page
    high_is = omega (arith, q.of_bytes 1)

    judged_all : Each c.passes (judged_of c σ page)
    judged_all =
        each_from c.passes (judged_of c σ page)
        (λ i g. q.words_pass i (omega (arith, laws.same_judged (8 * len) (page_words page n), length_page_words page n)))

    pub second_from : (P : List ℕ) × (R : List ℕ) × FirstRoundOf σ P × FitsOf c σ R P × (outcome_of c σ P R ≡ page)
    second_from =
        let o = laws.origin (8 * len) (page_words page n) (laid_row f page q.sized).1 judged_all q.bits_enough q.spare_zero in
        let P = first_of page q.of_bytes q.sized q.tail_zero o.0 o.1 o.2 o.3 in
        let p = first_round_of page q.of_bytes q.sized q.tail_zero o.0 o.1 o.2 o.3 in
        let w : page_words P n ≡ o.0 = first_words_lem page q.of_bytes q.sized q.tail_zero o.0 o.1 o.2 o.3 in
        let room : room_ahead c σ P S ≡ c.room (c.prepare o.0) wanted_bits =
        ap₂ (λ (us : List (List Bool)) (b : List Bool). c.room (c.prepare us) b) w bits_S in
        let r : FitsOf c σ S P = record { of_bytes = Bytes-S; enough = omega (arith, room, length_S, o.5) } in
        let again : c.put (c.prepare (page_words P n)) (bits S) ≡ page_words page n =
        ap₂ (λ (us : List (List Bool)) (b : List Bool). c.put (c.prepare us) b) w bits_S ∙ o.4 in (
          P,
          S,
          p,
          r,
          outcome_is P p S r
              ∙ ap₂ (λ (k : ℕ) (us : List (List Bool)). laid c.into (k % 256) (k / 256) us (tail n P)) length_S again
              ∙ ap (laid c.into (len % 256) (len / 256) (page_words page n))
              (first_tail page q.of_bytes q.sized q.tail_zero o.0 o.1 o.2 o.3)
              ∙ ap₂ (λ (a b : ℕ). laid c.into a b (page_words page n) (tail n page)) low_is high_is
              ∙ rw q.in_state at (laid_own f page q.of_bytes q.sized),
        )
