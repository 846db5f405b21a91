-- `script_files::write::Files::append` keeps what the file had: so far it has only grown.
use Rattle.script_files.specs.Files.{Grown}
use Rattle.script_files.proofs.write.Files.append.Given as goal

abbrev pub invariant-loop-byte : goal.invariant-loop-byte
invariant-loop-byte l = record {
  grown : Grown l.initial.self l.self;
}
