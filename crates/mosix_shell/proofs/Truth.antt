-- No test is both true and false.
use Rattle.std.proofs.Common.{◌≡◌, true, false}

pub false_true : {A : Type 0} → false ≡ true → A
false_true h = cc

pub true_false : {A : Type 0} → true ≡ false → A
true_false h = cc
