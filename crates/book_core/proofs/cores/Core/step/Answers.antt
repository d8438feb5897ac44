use Rattle.book_core.specs.declared.events.Event.TheVariants.{Claim, Report, Look}
use Rattle.book_core.proofs.LawLemmas.{BookLaw-step}
use Rattle.book_core.proofs.RunLemmas.{SameSizes-step}
use Rattle.book_core.proofs.cores.Core.step.Goals as goal

-- a claim that is answered keeps the law of the book
pub returns-in_ok-claim-in-Claim-clause-law : goal.returns-in_ok-claim-in-Claim-clause-law
returns-in_ok-claim-in-Claim-clause-law c = BookLaw-step c.args.self.now c.claim.new.self
    (Claim c.in-Claim.pass) c.in_ok-claim-in-Claim.field-0 c.in_ok-claim-in-Claim.ensures.ok

-- a report that is answered keeps the law of the book
pub returns-in_ok-report-in-Report-clause-law : goal.returns-in_ok-report-in-Report-clause-law
returns-in_ok-report-in-Report-clause-law c = BookLaw-step c.args.self.now c.report.new.self
    (Report c.in-Report.pass c.in-Report.place) c.in_ok-report-in-Report.field-0 c.in_ok-report-in-Report.ensures.ok

-- a look that is answered keeps the law of the book
pub returns-in-Look-clause-law : goal.returns-in-Look-clause-law
returns-in-Look-clause-law c = BookLaw-step c.args.self.now c.look.new.self (Look c.in-Look.pass) c.look.result c.look.ensures

-- a claim that is answered leaves as many jobs and passes as there were
pub returns-in_ok-claim-in-Claim-clause-sizes : goal.returns-in_ok-claim-in-Claim-clause-sizes
returns-in_ok-claim-in-Claim-clause-sizes c = SameSizes-step c.args.self.now c.claim.new.self
    (Claim c.in-Claim.pass) c.in_ok-claim-in-Claim.field-0 c.in_ok-claim-in-Claim.ensures.ok

-- a report that is answered leaves as many jobs and passes as there were
pub returns-in_ok-report-in-Report-clause-sizes : goal.returns-in_ok-report-in-Report-clause-sizes
returns-in_ok-report-in-Report-clause-sizes c = SameSizes-step c.args.self.now c.report.new.self
    (Report c.in-Report.pass c.in-Report.place) c.in_ok-report-in-Report.field-0 c.in_ok-report-in-Report.ensures.ok

-- a look that is answered leaves as many jobs and passes as there were
pub returns-in-Look-clause-sizes : goal.returns-in-Look-clause-sizes
returns-in-Look-clause-sizes c = SameSizes-step c.args.self.now c.look.new.self (Look c.in-Look.pass) c.look.result c.look.ensures
