-- What a debugger reads and writes of the guests, and the pages that this moves.
use Rattle.std.specs.Prelude.{◌≡◌, ℕ, true, false, Result, Ok, Err, List, []}
use Rattle.world.specs.Below.{Item, NothingHappens, Page, Private, TenantIs, Write, is_wanted, kind_of}
use Rattle.victims.specs.declared.wanted.Access.{Access}
use Rattle.world.specs.declared.debugging.DebugError.{DebugError}
use Rattle.world.specs.declared.debugging.DebugError.TheVariants as debug
use Rattle.world.specs.declared.running.RunStop.{RunStop}
use Rattle.world.specs.Victims.{OnlyPagesMove}
use Rattle.world.specs.Worlds.{Changes, item_for}

-- a page that was to be supplied first has a frame of its own, and any other is as before
pub record IsReady (how : Access) (page page' : Page) : Type 0 where
  pub supplied : is_wanted how (kind_of page) ≡ true → kind_of page' ≡ Private
  pub stays : is_wanted how (kind_of page) ≡ false → page' ≡ page

-- what is so where a debugger's access stopped
abbrev pub IfStopped : DebugError → (RunStop → Type 0) → Type 0
IfStopped debug.NoPlace so = Unit {0}
IfStopped (debug.Stop why) so = so why

-- the write of a debugger: an item of seat 3
abbrev pub write_of : ℕ → List ℕ → Item
write_of address bytes = record { seat = 3; what = Write address bytes }

-- it is added to the log of its guest exactly where it is made
abbrev pub written_items : ℕ → ℕ → ℕ → List ℕ → Result (Unit {0}) DebugError → List Item
written_items h g address bytes (Ok done) = item_for h g (write_of address bytes)
written_items h g address bytes (Err error) = []

-- of the guests only pages have moved, and then of one of them perhaps the room in its log has changed
pub record OnlyPagesAndRoom (g : ℕ) (tenants tenants' : List TenantIs) : Type 0 where
  pub between : List TenantIs
  pub pages : OnlyPagesMove tenants between
  pub room : Changes NothingHappens g between tenants'
