use Rattle.masm.proofs.MeansWhole.{means_assembly, means_one, means_faultless, faultless_means}
use Rattle.masm.proofs.laws.text_means_its_assembly.Goals as goal

pub returns-clause-means : goal.returns-clause-means
returns-clause-means c = means_assembly

pub returns-clause-one : goal.returns-clause-one
returns-clause-one c = means_one

pub returns-clause-no_fault : goal.returns-clause-no_fault
returns-clause-no_fault c = means_faultless

pub returns-clause-faultless : goal.returns-clause-faultless
returns-clause-faultless c = faultless_means
