-- How long the files are, and lists of numbers that are bytes.
-- Assumes nothing.
use Rattle.std.specs.Prelude.{ℕ, suc, ◌+◌, ◌*◌, ◌/◌, ◌%◌, ◌≤◌, ◌<◌, ◌≡◌, refl, Bool, true, false, List, [], ◌∷◌, ◌++◌, ◌⊎◌, eqb, length, get_or}
use Rattle.std.proofs.Common.{sym, ◌∙◌, ap, append_assoc, arith, length-append}
use Rattle.definitions.specs.Basics.{pick, each}
use Rattle.definitions.specs.Charts.{Chart, ChartStep, no_step, plain, grouped, step_length}
use Rattle.definitions.specs.Diagrams.{Diagram, no_node}
use Rattle.definitions.specs.Bytes.{le2, le4, header, field, body_of_step, head_bytes, step_bytes, chart_bytes, root_bytes, node_bytes, diagram_bytes}

pub each_long : {A : Type 0} (f : A → List ℕ) (n : ℕ) (d : A) (xs : List A) → ((e : ℕ) → e < length xs → length (f (get_or xs e d)) ≡ n) → length (each f xs) ≡ n * length xs
each_long f n d [] h = omega arith
each_long f n d (x ∷ xs) h = omega (arith, length-append (f x) (each f xs), h 0 (omega arith), each_long f n d xs (λ e i. h (suc e) (omega arith)))

-- a chart whose steps are all of one kind
pub record OfKind (c : Chart) (kind : ℕ) : Type 0 where
  pub known : (kind ≡ plain) ⊎ (kind ≡ grouped)
  pub alike : (e : ℕ) → e < length c.steps → (get_or c.steps e no_step).tag ≡ kind

pub step_long : (x : ChartStep) → length (body_of_step x) ≡ step_length x.tag
unfolding pick
step_long x = omega (arith, go (eqb x.tag grouped))
  where
    go : (b : Bool) → 8 + length (pick b (le2 x.group) []) ≡ pick b 10 8
    go true = refl
    go false = refl

pub length_few : (tag : ℕ) → step_length tag ≤ 10
unfolding pick
length_few tag = go (eqb tag grouped)
  where
    go : (b : Bool) → pick b 10 8 ≤ 10
    go true = omega arith
    go false = omega arith

pub chart_long : (c : Chart) (kind : ℕ) → OfKind c kind → length (chart_bytes c) ≡ 9 + (3 + step_length kind) * length c.steps
chart_long c kind k =
    omega (arith, length-append (head_bytes c.stages c.start c.end) (each step_bytes c.steps), each_long step_bytes (3 + step_length kind) no_step c.steps long)
  where
    long : (e : ℕ) → e < length c.steps → length (step_bytes (get_or c.steps e no_step)) ≡ 3 + step_length kind
    long e h = omega (arith, step_long (get_or c.steps e no_step), ap step_length (k.alike e h))

pub diagram_long : (d : Diagram) → length (diagram_bytes d) ≡ 5 + 9 * length d.nodes
diagram_long d = omega (arith, length-append (root_bytes d.root) (each node_bytes d.nodes), each_long node_bytes 9 no_node d.nodes (λ e h. refl))

-- ---- bytes

abbrev pub AllBytes : List ℕ → Type 0
AllBytes [] = Unit {0}
AllBytes (x ∷ s) = (x < 256) × AllBytes s

pub append_bytes : (s t : List ℕ) → AllBytes s → AllBytes t → AllBytes (s ++ t)
append_bytes [] t p q = q
append_bytes (x ∷ s) t p q = (p.0, append_bytes s t p.1 q)

pub le2_bytes : (n : ℕ) → n < 65536 → AllBytes (le2 n)
le2_bytes n h = (omega arith, (omega arith, tt))

pub le4_bytes : (n : ℕ) → n < 4294967296 → AllBytes (le4 n)
le4_bytes n h = append_bytes (le2 (n % 65536)) (le2 (n / 65536)) (le2_bytes (n % 65536) (omega arith)) (le2_bytes (n / 65536) (omega arith))

pub field_bytes_lem : (tag : ℕ) (body : List ℕ) → tag < 256 → length body < 65536 → AllBytes body → AllBytes (field tag body)
field_bytes_lem tag body h l p = append_bytes (header tag (length body)) body (h, le2_bytes (length body) l) p

-- of each member, wherever it stands in the list
module _ {A : Type 0} (f : A → List ℕ) (all : List A) (small : (before : List A) (x : A) (rest : List A) → all ≡ before ++ x ∷ rest → AllBytes (f x)) where
  rest_bytes : (rest before : List A) → all ≡ before ++ rest → AllBytes (each f rest)
  rest_bytes [] before e = tt
  rest_bytes (x ∷ rest) before e = append_bytes (f x) (each f rest) (small before x rest e) (rest_bytes rest (before ++ x ∷ []) (e ∙ sym (append_assoc before (x ∷ []) rest)))

  pub each_bytes : AllBytes (each f all)
  each_bytes = rest_bytes all [] refl
