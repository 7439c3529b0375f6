-- The world that parts make.
use Rattle.world.specs.Worlds.{WorldIs}
use Rattle.world.specs.declared.parts.Parts.{Parts}

abbrev pub of_parts : {Store : Type 0} → Parts Store → WorldIs Store
of_parts p = record { tenants = p.tenants.items; pool = p.pool; slots = p.slots; shares = p.shares; store = p.store; frames = p.frames; level = p.level }
