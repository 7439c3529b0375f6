-- What a turn of the policy does to a guest.
use Rattle.std.specs.Prelude.{◌≡◌, ◌≢◌, ◌↔◌, ℕ, Bool, true, false, Option, Some, IfSome, length}
use Rattle.items.specs.declared.item.Item.{Item}
use Rattle.items.specs.declared.item.What.TheVariants as what
use Rattle.guest_log.specs.Logs.{IsFull}
use Rattle.guest_log.specs.declared.stop.Stop.TheVariants.{LogFull}
use Rattle.tenant.specs.declared.turning.Aim.{Aim}
use Rattle.tenant.specs.declared.turning.Aim.TheVariants.{Kept, Set, LeftOut}
use Rattle.tenant.specs.Tenants.{TenantIs, pages_in, Adds, NothingHappens}

-- the target of a guest's balloon
abbrev pub target_of : TenantIs → ℕ
target_of t = t.guest.bus.devices.balloon.target

-- the policy's seat sets it
abbrev pub target_by_policy : ℕ → Item
target_by_policy pages = record { seat = 2; what = what.Target pages }

-- a target that is wanted and isn't the present one
pub record IsOther (wanted : Option ℕ) (t : TenantIs) : Type 0 where
  pub pages : ℕ
  pub these : wanted ≡ Some pages
  pub other : pages ≢ target_of t

-- What has become of a guest's balloon target, where this one was wanted, if any. It stays where no other one was wanted; else the
-- log has the item more that sets it, or has no room for that.
abbrev pub IsAimed : Option ℕ → TenantIs → Aim → TenantIs → Type 0
IsAimed wanted t Kept t' = IfSome wanted (λ pages. pages ≡ target_of t) × NothingHappens t t'
IsAimed wanted t (Set pages) t' = (wanted ≡ Some pages) × (pages ≢ target_of t) × Adds t (target_by_policy pages) t' × (IsFull t.guest.log → ⊥)
IsAimed wanted t (LeftOut stop) t' = IsOther wanted t × NothingHappens t t' × ((stop ≡ LogFull) ↔ IsFull t.guest.log)

-- whether another target was wanted, for which the log has no room
abbrev pub is_left_out : Aim → Bool
is_left_out Kept = false
is_left_out (Set pages) = false
is_left_out (LeftOut stop) = true

-- what a turn leaves of a guest: its boot, how many runs its log may have, how many pages it has, and what the policy goes by, but for
-- whether it is blocked
pub record StaysInTurn (t t' : TenantIs) : Type 0 where
  pub boot : t'.guest.boot ≡ t.guest.boot
  pub limit : t'.guest.log.limit ≡ t.guest.log.limit
  pub shares : t'.shares ≡ t.shares
  pub minimum : t'.minimum ≡ t.minimum
  pub sample : t'.sample ≡ t.sample
  pub count : length (pages_in t') ≡ length (pages_in t)
