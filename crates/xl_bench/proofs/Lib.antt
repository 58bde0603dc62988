mod MachineLemmas
