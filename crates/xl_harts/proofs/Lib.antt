mod Common
mod LargeLemmas
mod RefusalLemmas
mod ChangeLemmas
mod AccessLemmas
mod ServeLemmas
mod StepLemmas
