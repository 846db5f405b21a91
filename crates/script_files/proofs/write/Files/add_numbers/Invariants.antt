-- `script_files::write::Files::add_numbers` keeps what the file had: so far it has only grown.
use Rattle.script_files.specs.Files.{Grown}
use Rattle.script_files.proofs.write.Files.add_numbers.Given as goal

abbrev pub invariant-loop-number : goal.invariant-loop-number
invariant-loop-number l = record {
  grown : Grown l.initial.self l.self;
}
