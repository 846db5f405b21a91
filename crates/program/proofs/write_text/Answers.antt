-- `program::write_text` meets its contract: the promises of both searches, and the text of their answers.
use mathlib.Core.List.{[], ◌∷◌}
use native.Mathlib.Omega.{arith}
use Rattle.checks.specs.Outcome.{load_shortest}
use Rattle.program.proofs.write_text.Goals as goal

pub returns : goal.returns
returns c =
    record {
      answers = c.both-both.result;
      lent = _;
      lent' = _;
      given = _;
      given' = _;
      both = c.both-both.ensures;
      sweep_space = load_shortest c.args.chart.now c.args.rules.now 4096 (4096 ∷ 4096 ∷ []) 255;
      guided_space = load_shortest c.args.chart.now c.args.rules.now 4096 (4096 ∷ 4096 ∷ 4096 ∷ 4096 ∷ 4096 ∷ []) 255;
      text = c.write_answers.ensures.appended;
      short = omega (arith, c.write_answers.ensures.short);
    }
