use Rattle.std.proofs.Common.{rules, ◌≡◌, ap, ◌∙◌, arith}
use Rattle.mips_cp0.specs.declared.profile.ProfileNumbers.{ProfileNumbers}
use Rattle.logfile.specs.Faults.{digest_in}
use Rattle.logfile.specs.Versions.{profile_in, HasNumber}
use Rattle.logfile.proofs.SecondVersion.{fields_made}
use Rattle.logfile.proofs.versions.check_fields.Goals as goal

pub returns-clause-ok : goal.returns-clause-ok
returns-clause-ok c =
    let of : digest_in c.args.fields.now ≡ c.args.digest.now = search rules in
    let named : HasNumber c.in-Some.profile (profile_in c.args.fields.now) = c.in-Some.ensures.found ∙ c.profile_in.ensures in
    let most = ap (λ (n : ProfileNumbers). n.most_pages) c.numbers.ensures.value in
    fields_made c.args.fields.now c.args.digest.now c.in-Some.profile c.pages_in-pages.result (omega arith) (λ i. omega (arith, c.type_inv.fields i)) (omega arith) named c.pages_in-pages.ensures (omega arith) (omega (arith, most)) of
