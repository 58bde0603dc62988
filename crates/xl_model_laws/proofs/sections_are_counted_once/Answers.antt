use Rattle.xl_model_lemmas.proofs.SectionLemmas.{In-keys, keys-In, keys-once}
use Rattle.xl_model_laws.specs.Sections.{SectionsAreCountedOnce}
use Rattle.xl_model_laws.proofs.sections_are_counted_once.Goals as goal

-- The sections that room in a cuckoo table counts.
sections_are_counted_once : SectionsAreCountedOnce
sections_are_counted_once size leaves = record {
  once = keys-once size leaves;
  there = λ key t. In-keys size key leaves t;
  only = λ key i. keys-In size key leaves i;
}

pub returns : goal.returns
returns c = sections_are_counted_once
