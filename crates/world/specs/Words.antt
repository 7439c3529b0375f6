-- By which words of the generator events go.
use Rattle.std.specs.Prelude.{◌≡◌, ℕ, ◌*◌, ◌⊎◌, length}
use Rattle.world.specs.Below.{Stream, after_words}
use Rattle.world.specs.declared.events.Event.{Event}
use Rattle.world.specs.declared.events.Event.TheVariants as event
use Rattle.victims.specs.declared.wanted.Access.TheVariants as access
use Rattle.world.specs.declared.events.Answer.{Answer}
use Rattle.world.specs.declared.events.Answer.TheVariants as answer
use Rattle.world.specs.Choices.{moment_of, IsRun, IsFault, ReachesBytes, WritesBytes, TurnsBy}
use Rattle.world.specs.Samples.{AreSampled}
use Rattle.world.specs.Worlds.{StoreFacts, WorldIs}

-- An event goes by these words, and leaves the rest of them: where room is made for pages that are needed, each word draws the page of a
-- victim; a sample takes a hundred for each guest; a turn of the policy takes one for each page that is swapped out. No other event draws
-- any.
abbrev pub GoesByWords : {Kept : Type 0} → StoreFacts Kept → (tax : ℕ) → Stream → WorldIs Kept → Event → Answer → Stream → WorldIs Kept → Type 0
GoesByWords facts tax words w (event.Run g count) (answer.Ran ran) rest w' =
    IsRun w.frames (facts.slots w.store) (facts.true_to_digests w.store) tax g ran.end (moment_of words w) (moment_of rest w')
GoesByWords facts tax words w (event.Run g count) _ rest w' = moment_of rest w' ≡ moment_of words w
GoesByWords facts tax words w (event.Probe g address count) a rest w' =
    (moment_of rest w' ≡ moment_of words w) ⊎ ReachesBytes w.frames (facts.slots w.store) tax access.Read g address count (moment_of words w) (moment_of rest w')
GoesByWords facts tax words w (event.Write g address bytes) a rest w' =
    (moment_of rest w' ≡ moment_of words w) ⊎ WritesBytes w.frames (facts.slots w.store) tax g address (length bytes.items) (moment_of words w) (moment_of rest w')
GoesByWords facts tax words w (event.Fault g) a rest w' =
    IsFault w.frames (facts.slots w.store) (facts.true_to_digests w.store) tax g (moment_of words w) (moment_of rest w')
GoesByWords facts tax words w event.Sample a rest w' =
    AreSampled words w.tenants w'.tenants × (rest ≡ after_words (100 * length w.tenants) words)
GoesByWords facts tax words w event.Level a rest w' =
    (moment_of rest w' ≡ moment_of words w) ⊎ TurnsBy w.frames (facts.slots w.store) (moment_of words w) (moment_of rest w')
GoesByWords facts tax words w _ a rest w' = rest ≡ words
