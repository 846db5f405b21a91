-- One call: what both searches promise alike (`Promised`), and how a search ends. proofs/Results.antt has demands 1 and 2 from it, and that no legal plan costs less.
-- Assumes nothing.
use Rattle.std.specs.Prelude.{ℕ, ◌≤◌, ◌≡◌, List, [], ◌++◌, length, get_or, take, drop}
use Rattle.std.proofs.Common.{sym, ◌∙◌, ap, take-append-drop}
use Rattle.definitions.specs.Charts.{Chart}
use Rattle.definitions.specs.Diagrams.{Diagram}
use Rattle.definitions.specs.Ways.{way_cost}
use Rattle.definitions.specs.Plans.{graph, Legal, cheapest}
use Rattle.definitions.specs.Answers.{Load, ready, refused, refusal}
use Rattle.definitions.specs.Promises.{Outcome}
use Rattle.definitions.specs.declared.Answer.{Answer}
use Rattle.demands.specs.Demands.{Call, need, Refusal, StaysFrom, Given, NoPlan}

-- a list after a call is its first n entries, then the old ones
pub written : (n : ℕ) (slice slice' : List ℕ) → length (take n slice') ≡ n → drop n slice' ≡ drop n slice
    → slice' ≡ take n slice' ++ drop (length (take n slice')) slice
written n slice slice' l e =
    sym (take-append-drop n slice') ∙ ap (λ (z : List ℕ). take n slice' ++ z) e ∙ ap (λ (k : ℕ). take n slice' ++ drop k slice) (sym l)

-- what both searches promise, by the outcome of the checks
abbrev pub Promised : Load → Call → Type 0
Promised (refused number file place) x = (x.answer ≡ refusal number file place 0) × (x.plan' ≡ x.plan) × (x.works' ≡ x.works)
Promised (ready c d) x =
    (k : ℕ) × Outcome (cheapest c d) c d k x.plan x.plan' x.answer × ((i : ℕ) → StaysFrom (need c d) (get_or x.works i []) (get_or x.works' i []))

-- how a search ends where all checks pass: with a plan than which none is cheaper, or with 8
pub record Found (x : Call) (c : Chart) (d : Diagram) : Type 0 where
  pub number : x.answer.number ≡ 0
  pub given : Given x c d
  pub least : (w : List ℕ) → Legal c d w → x.answer.cost ≤ way_cost (graph c) w

pub record Lacks (x : Call) (c : Chart) (d : Diagram) : Type 0 where
  pub answer : Refusal 8 0 0 x.answer.count x.answer
  pub plan : x.plan' ≡ x.plan
  pub legal : NoPlan c d

pub refusal_is : (n f p k : ℕ) (r : Answer) → r ≡ refusal n f p k → Refusal n f p k r
refusal_is n f p k r e = record {
  number = ap (λ (a : Answer). a.number) e;
  file = ap (λ (a : Answer). a.file) e;
  place = ap (λ (a : Answer). a.place) e;
  cost = ap (λ (a : Answer). a.cost) e;
  length = ap (λ (a : Answer). a.length) e;
  count = ap (λ (a : Answer). a.count) e;
}
