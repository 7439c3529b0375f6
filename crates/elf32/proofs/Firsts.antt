-- The first fault of a list of tests.
use Rattle.std.proofs.Common.{◌≡◌, Bool, true, false, List, [], ◌∷◌, ◌++◌, Some, None, refl}
use Rattle.elf32.specs.declared.fault.Fault.{Fault}
use Rattle.elf32.specs.Faults.{first_fault_of}

-- where the tests before find a fault, all tests find it
pub first_before : (fs gs : List (Bool × Fault)) (f : Fault) → first_fault_of fs ≡ Some f → first_fault_of (fs ++ gs) ≡ Some f
first_before [] gs f h = cc
first_before ((true, g) ∷ fs) gs f h = h
first_before ((false, g) ∷ fs) gs f h = first_before fs gs f h

-- where they find none, the tests after are left
pub first_after : (fs gs : List (Bool × Fault)) → first_fault_of fs ≡ None → first_fault_of (fs ++ gs) ≡ first_fault_of gs
first_after [] gs h = refl
first_after ((true, g) ∷ fs) gs h = cc
first_after ((false, g) ∷ fs) gs h = first_after fs gs h

-- a test that is false or true
pub first_passed : (b : Bool) (f : Fault) (fs : List (Bool × Fault)) → b ≡ false → first_fault_of ((b, f) ∷ fs) ≡ first_fault_of fs
first_passed b f fs h = rw h refl

pub first_failed : (b : Bool) (f : Fault) (fs : List (Bool × Fault)) → b ≡ true → first_fault_of ((b, f) ∷ fs) ≡ Some f
first_failed b f fs h = rw h refl

-- where no fault is found, the first test is false and the others find none
pub both_passed : (b : Bool) (f : Fault) (fs : List (Bool × Fault)) → first_fault_of ((b, f) ∷ fs) ≡ None → (b ≡ false) × (first_fault_of fs ≡ None)
both_passed true f fs h = cc
both_passed false f fs h = (refl, h)

-- where no fault is found, the tests after the first ones find none
pub rest_passed : (fs gs : List (Bool × Fault)) → first_fault_of (fs ++ gs) ≡ None → first_fault_of gs ≡ None
rest_passed [] gs h = h
rest_passed ((true, g) ∷ fs) gs h = cc
rest_passed ((false, g) ∷ fs) gs h = rest_passed fs gs h
