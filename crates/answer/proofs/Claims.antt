-- The claims of specs/Claims.antt.
-- Assumes nothing.
use Rattle.answer.specs.Claims.{FirstRefusalGiven, TakenApart}
use Rattle.answer.proofs.Chains.{accepted, refused, no_other, still_refused, refused_leaves}
use Rattle.answer.proofs.Apart.{taken_apart, parts_apart}

pub first_refusal_given : {A : Type 0} → FirstRefusalGiven A
first_refusal_given = record {
  accepted = accepted;
  refused = refused;
  no_other = no_other;
  still_refused = still_refused;
  refused_leaves = refused_leaves;
}

pub packed_apart : TakenApart
packed_apart = record { one = taken_apart; two = parts_apart }
