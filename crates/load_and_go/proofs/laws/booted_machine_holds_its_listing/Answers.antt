use Rattle.load_and_go.proofs.Booted.{machine_holds}
use Rattle.load_and_go.proofs.laws.booted_machine_holds_its_listing.Goals as goal

pub returns : goal.returns
returns c = λ listing assembled read file profile pages image written stands. machine_holds listing assembled read file profile pages image written stands
