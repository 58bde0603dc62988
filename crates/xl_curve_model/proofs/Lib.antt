pub mod SameLeafLemmas
