-- Where no page is ever lacking, a step needs none.
use Rattle.std.proofs.Common.{◌≡◌, List, [], ◌∷◌, None, refl}
use Rattle.machine.specs.Accesses.{Access, first_lack}

pub never_lacks : (accessed : List Access) → first_lack (λ page kind. None) accessed ≡ None
never_lacks [] = refl
never_lacks (a ∷ more) = never_lacks more
