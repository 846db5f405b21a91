-- What opening the pairs that follow from a settled pair rests on, and what it leaves.
-- Assumes nothing.
use Rattle.std.specs.Prelude.{ℕ, ◌≤◌, ◌<◌, ◌≡◌, length}
use Rattle.std.proofs.Common.{◌∙◌, arith}
use Rattle.queue.specs.Queue.{Queue}
use Rattle.definitions.specs.Ways.{Graph}
use Rattle.definitions.specs.Pairs.{Automaton}
use Rattle.definitions.specs.declared.Shape.{Shape}
use Rattle.checks.specs.Tables.{pairs_in}
use Rattle.checks.specs.Ready.{Walk, graph_in, automaton_in}
use Rattle.guided_model.specs.Moves.{Frontier, frontier_moved, Expanded, expanded_more}
use Rattle.guided_model.specs.Settling.{Settling}
use Rattle.guided_offers.specs.Estimates.{Estimates}
use Rattle.guided_offers.specs.Work.{Kept, kept_more}
use Rattle.guided_expand.specs.Progress.{Progress, queue_of, seen_in}
use Rattle.guided_expand.specs.Guides.{Guides}
use Rattle.guided_expand.specs.declared.steps.Source.{Source}

-- the stage and the node of the settled pair
abbrev pub source_stage : Source → ℕ
source_stage from = from.pair.stage.0

abbrev pub source_node : Source → ℕ
source_node from = from.pair.node.0

module _ {z : Shape} {on : Walk} {t : Estimates} (by : Guides z on t) (from : Source) where
  abbrev g : Graph
  g = graph_in z on.read

  abbrev a : Automaton
  a = automaton_in z on.read

  -- the steps from the pair can be offered; `pairs` is the number of pairs, by which the code goes
  pub record Opens (pairs : ℕ) (x : Progress) : Type 0 where
    pub all : pairs ≡ pairs_in z
    pub fits : pairs_in z ≤ length x.slices.via
    pub blocks : length x.filled ≡ 1024
    pub queue : Queue (pairs_in z) from.key (queue_of x)
    pub frontier : Frontier g a by.h (seen_in (pairs_in z) x) from.key
    pub settling : Settling g a by.h (source_stage from) (source_node from) from.cost from.key

  -- the steps from `first` to before `until` were offered
  pub record Opened (first until : ℕ) (x x' : Progress) : Type 0 where
    pub expanded : Expanded g a by.h (source_stage from) (source_node from) from.cost first until (seen_in (pairs_in z) x) (seen_in (pairs_in z) x')
    pub kept : Kept (pairs_in z) from.key x.slices x'.slices x'.counts
    pub blocks : length x'.filled ≡ length x.filled

  -- it may go on
  pub opens_on : {pairs first until : ℕ} {x x' : Progress} → length x'.slices.via ≡ length x.slices.via → Opens pairs x → Opened first until x x' → Opens pairs x'
  opens_on {pairs} {first} {until} {x} {x'} l o m = record {
    all = o.all;
    fits = omega (arith, o.fits);
    blocks = m.blocks ∙ o.blocks;
    queue = m.kept.queue;
    frontier = frontier_moved g a by.h (source_stage from) (source_node from) from.cost (seen_in (pairs_in z) x) (seen_in (pairs_in z) x') from.key o.frontier m.expanded.moved;
    settling = o.settling;
  }

  -- some steps, and then others
  pub opened_more : {first e until : ℕ} {x x' x'' : Progress} → Opened first e x x' → Opened e until x' x'' → Opened first until x x''
  opened_more {first} {e} {until} {x} {x'} {x''} k m = record {
    expanded = expanded_more g a by.h (source_stage from) (source_node from) from.cost first e until (seen_in (pairs_in z) x) (seen_in (pairs_in z) x') (seen_in (pairs_in z) x'') k.expanded m.expanded;
    kept = kept_more k.kept m.kept;
    blocks = m.blocks ∙ k.blocks;
  }

-- the steps from a settled pair can be offered, in the tables of some chart and diagram by some guide
pub record Opening (on : Walk) (t : Estimates) (from : Source) (pairs : ℕ) (x : Progress) : Type 0 where
  pub z : Shape
  pub by : Guides z on t
  pub opens : Opens by from pairs x

-- step e leads from a settled pair to node `to`, and can be offered, in the tables of some chart and diagram by some guide
pub record Leading (on : Walk) (t : Estimates) (from : Source) (pairs e to : ℕ) (x : Progress) : Type 0 where
  pub z : Shape
  pub by : Guides z on t
  pub opens : Opens by from pairs x
  pub exists : e < z.steps
  pub leaves : (graph_in z on.read).from e ≡ source_stage from
  pub enters : to ≡ (automaton_in z on.read).next e (source_node from)
