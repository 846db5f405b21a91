-- The guided search settles no more pairs than are reached, by what it promises of its log alone.
-- Assumes nothing.
use Rattle.std.specs.Prelude.{ℕ, ◌≤◌, ◌<◌, ◌≡◌, length, get_or}
use mathlib.Core.List.{List, Memᴰ}
use Rattle.std.proofs.Math.Option.{some}
use Rattle.definitions.specs.Ways.{Graph}
use Rattle.definitions.specs.Pairs.{Automaton, stage_of, node_of, pairs, reached_pairs, Estimate}
use Rattle.definitions.specs.Promises.{sum_at, Settled}
use Rattle.theory.specs.Pairs.{cost_reached, reached_pairs_in, sum_parts}
use Rattle.theory.specs.Counting.{list_among}

-- a log of settled pairs is no longer than the list of reached pairs
pub settled_few : (g : Graph) (a : Automaton) (h : Estimate) (log : List ℕ) → Settled g a h log → length log ≤ length (reached_pairs g a)
settled_few g a h log s = list_among log (reached_pairs g a) (λ i l. is_reached (get_or log i 0) (s.inside i l) (s.sums i l)) s.once
  where
    is_reached : (p : ℕ) → p < pairs g a → (k : ℕ) × (sum_at g a h p ≡ some k) → Memᴰ p (reached_pairs g a)
    is_reached p i t =
        let x = sum_parts g a h (stage_of a p) (node_of a p) t.0 t.1 in
        reached_pairs_in g a p i (cost_reached g a (stage_of a p) (node_of a p) x.0 x.2)
