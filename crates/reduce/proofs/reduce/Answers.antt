-- `reduce::reduce` meets its contract.
use Rattle.std.proofs.Common.{ℕ, refl}
use Rattle.std.proofs.lemmas.List.{length-replicate}
use Rattle.reduce.specs.Reducing.{asked, reduced}
use Rattle.reduce.proofs.reduce.Goals as goal

pub join-requires : goal.join-requires
join-requires c =
    asked _ _ _ _ _ c.in-Ok.ensures _ refl _ c.leaf_word-always.ensures refl refl _ (length-replicate {A = ℕ} 1024 0)

pub returns-in-Ok : goal.returns-in-Ok
returns-in-Ok c =
    let long = length-replicate {A = ℕ} 1024 0 in
    reduced _ _ _ _ _ c.in-Ok.ensures _ refl _ c.leaf_word-always.ensures refl refl _ long _ _ _ _
    (c.join.ensures (asked _ _ _ _ _ c.in-Ok.ensures _ refl _ c.leaf_word-always.ensures refl refl _ long))
