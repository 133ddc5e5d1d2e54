-- What an operation answers after a check that it passes on by `?`. Assumes nothing.
use mathlib.Core.List.{List, ◌++◌}
use mathlib.Core.Path.{◌≡◌, refl, sym, ap, ◌∙◌}
use Rattle.std.specs.Prelude.{Result, Err}
use Rattle.std.specs.Result.{IsErrAnd}
use Rattle.std.proofs.lemmas.Result.{err_from_is_err_and}
use Rattle.answer.specs.declared.Refusal.{Refusal}
use Rattle.answer.specs.Answer.{result, refusal, Check, answer, refusal_number, refusal_index}
use Rattle.answer.proofs.Chains.{accepted, still_refused}

-- where the check refused, `?` returns the refusal
pub refused_as : {A : Type 0} (r : Result A Refusal) (e : Refusal) → IsErrAnd r (λ d. d ≡ e) → r ≡ Err e
refused_as r e h = let p = err_from_is_err_and r h in p.1 ∙ ap Err p.2

-- it is the answer of those checks, whatever stands behind them and whatever the result
pub passed_on : {A B : Type 0} (cs ds : List Check) (x : A) (y : B) (e : Refusal)
    → answer cs x ≡ refusal (refusal_number e) (refusal_index e) → refusal (refusal_number e) (refusal_index e) ≡ answer (cs ++ ds) y
passed_on cs ds x y e h = sym (still_refused cs ds x y _ _ h)

-- where all checks passed, the result is the operation's own
pub same_result : {A B : Type 0} (cs : List Check) (x v : A) (y : B) → result v ≡ answer cs x → answer cs y ≡ result y
same_result cs x v y e = (accepted cs y y).1 (((accepted cs x v).0 (sym e)).0, refl)
