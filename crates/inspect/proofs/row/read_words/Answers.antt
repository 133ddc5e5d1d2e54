-- `inspect::row::read_words` meets its contract: before word i the words before it are legal in their unwalked form, and their bits are in the
-- buffer. Assumes nothing.
use mathlib.Core.Logic.{inl}
use mathlib.Core.Path.{◌≡◌, refl, sym, ◌∙◌}
use native.Mathlib.Omega.{arith}
use Rattle.walk.proofs.Walking.{read_most}
use Rattle.inspect.proofs.ReadWords.{reading_start, reading_lt, reading_legal, reading_failed, reading_turn, reading_all}
use Rattle.inspect.proofs.row.read_words.Goals as goal

pub loop-i-init : goal.loop-i-init
loop-i-init c =
    reading_start _ _ _ _ _ (λ j. omega (arith, c.type_inv.buffer j))

pub returns-then-not-is_legal : goal.returns-then-not-is_legal
returns-then-not-is_legal c =
    let r = c.loop-i.invariant in
    let t = c.is_legal.ensures ∙ reading_legal _ _ _ _ _ _ _ _ r c.loop-i-test.true c.requires.0 _ _ _ _ c.load_word.ensures c.read_word-read.ensures _ (omega arith) in
    record {
      words = reading_failed _ _ _ _ _ _ _ _ r c.loop-i-test.true c.requires.0 _ _ _ _ c.load_word.ensures c.read_word-read.ensures (sym t ∙ c.if-not-is_legal.true);
      bits = omega (arith, r.counted);
      bytes = r.held;
    }

pub put_cells-requires : goal.put_cells-requires
put_cells-requires c =
    let r = c.loop-i.invariant in (
      inl refl,
      omega (arith, r.few),
      omega arith,
      omega arith,
      reading_lt _ _ _ _ _ _ _ _ r c.loop-i-test.true c.requires.0 _ _ _ _ c.load_word.ensures c.read_word-read.ensures,
    )

pub overflow_add-at : goal.overflow_add-at
overflow_add-at c =
    omega (arith, c.loop-i.invariant.most, c.read_word-read.ensures.count_is, read_most, c.requires)

pub loop-i-preserved : goal.loop-i-preserved
loop-i-preserved c =
    let r = c.loop-i.invariant in
    let t = c.is_legal.ensures ∙ reading_legal _ _ _ _ _ _ _ _ r c.loop-i-test.true c.requires.0 _ _ _ _ c.load_word.ensures c.read_word-read.ensures _ (omega arith) in
    reading_turn _ _ _ _ _ _ _ _ r c.loop-i-test.true c.requires.0 _ _ _ _ c.load_word.ensures c.read_word-read.ensures _ c.requires.2
    (omega (arith, r.few)) (sym t ∙ c.if-not-is_legal.false) c.put_cells.ensures

pub returns : goal.returns
returns c =
    let r = c.loop-i.invariant in
    let e : c.loop-i.i ≡ c.args.n = omega arith in
    let counted = rw e at r.counted in
    record { words = sym e ∙ reading_all _ _ _ _ _ _ _ _ r e; bits = omega (arith, counted); bytes = rw e at r.held }
