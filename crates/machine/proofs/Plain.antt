-- Stores that are plain.
use Rattle.std.proofs.Common.{ℕ, ◌≡◌, ap}
use Rattle.devices.specs.Devices.{DevicesAre}
use Rattle.mips_tlb.specs.declared.kind.Kind.TheVariants.{Store}
use Rattle.machine.specs.declared.access.Size.{Size}
use Rattle.machine.specs.Bus.{Lacks, IsPlain}
use Rattle.machine.specs.Board.{Board, bytes_after, memory_stored}

-- a store that is plain stores bytes alone
pub plain_memory_stored : (lacks : Lacks) (size : Size) (value at : ℕ) (b : Board) → IsPlain b lacks Store size at
    → memory_stored size value at b ≡ record b { memory = bytes_after size value at b.memory }
plain_memory_stored lacks size value at b plain =
    ap (λ (d : DevicesAre). record { memory = bytes_after size value at b.memory; devices = d }) plain.devices
