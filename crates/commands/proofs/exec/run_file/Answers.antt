use Rattle.commands.proofs.Reports.{report_of_file}
use Rattle.commands.proofs.exec.run_file.Goals as goal

pub returns-in_ok-run_guest-in-Guest-clause-report : goal.returns-in_ok-run_guest-in-Guest-clause-report
returns-in_ok-run_guest-in-Guest-clause-report g c =
    report_of_file (g.F.Read.remaining c.args.file) c.args.order c.args.input.now c.args.until.now c.args.extras.now c.in_ok-loaded.loaded.image c.in_ok-run_guest-in-Guest.field-0.report c.in_ok-loaded.ensures.stands c.in_ok-run_guest-in-Guest.ensures.report

pub returns-in_ok-run_flat-in-Flat-clause-report : goal.returns-in_ok-run_flat-in-Flat-clause-report
returns-in_ok-run_flat-in-Flat-clause-report g c =
    report_of_file (g.F.Read.remaining c.args.file) c.args.order c.args.input.now c.args.until.now c.args.extras.now c.in_ok-loaded.loaded.image c.in_ok-run_flat-in-Flat.field-0.report c.in_ok-loaded.ensures.stands c.in_ok-run_flat-in-Flat.ensures.report

pub returns-in_ok-run_guest-in-Guest-clause-some_image : goal.returns-in_ok-run_guest-in-Guest-clause-some_image
returns-in_ok-run_guest-in-Guest-clause-some_image g c = (c.in_ok-loaded.loaded.image, c.in_ok-run_guest-in-Guest.ensures.report)

pub returns-in_ok-run_flat-in-Flat-clause-some_image : goal.returns-in_ok-run_flat-in-Flat-clause-some_image
returns-in_ok-run_flat-in-Flat-clause-some_image g c = (c.in_ok-loaded.loaded.image, c.in_ok-run_flat-in-Flat.ensures.report)
