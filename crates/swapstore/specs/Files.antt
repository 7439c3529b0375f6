-- What is seen of a store in a file.
use Rattle.std.specs.Prelude.{ℕ}
use Rattle.swapstore.specs.declared.file.FileStore.{FileStore}

-- what its bytes lie on
abbrev pub medium_of : {M : Type 0} → FileStore M → M
medium_of store = store.medium

abbrev pub slots_of : {M : Type 0} → FileStore M → ℕ
slots_of store = store.slots

abbrev pub failures_of : {M : Type 0} → FileStore M → ℕ
failures_of store = store.failures
