use Rattle.fp_operators.proofs.Versions.{version_grammar, build_ignored, pre_release_first}
use Rattle.fp_operators.proofs.laws.version_laws.Goals as goal

pub returns : goal.returns
returns c = record {
  grammar = version_grammar;
  build = build_ignored;
  pre_releases = pre_release_first;
}
