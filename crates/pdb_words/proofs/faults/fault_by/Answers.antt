use Rattle.std.proofs.Common.{◌∙◌, sym}
use Rattle.clap.specs.declared.error.kind.ErrorKind.TheVariants.{DisplayHelp, DisplayVersion}
use Rattle.pdb_words.proofs.CommandLemmas.{error_among, mistake_cause}
use Rattle.pdb_words.proofs.faults.fault_by.Goals as goal

-- a wish for help in the words is the cause for the text of help
pub returns-in-DisplayHelp-clause-cause : goal.returns-in-DisplayHelp-clause-cause
returns-in-DisplayHelp-clause-cause c words has = error_among words c.args.error DisplayHelp has (sym c.in-DisplayHelp.is ∙ c.kind.ensures) (λ e. cc)

-- a wish for the version in the words is the cause for the line of the version
pub returns-in-DisplayVersion-clause-cause : goal.returns-in-DisplayVersion-clause-cause
returns-in-DisplayVersion-clause-cause c words has = error_among words c.args.error DisplayVersion has (sym c.in-DisplayVersion.is ∙ c.kind.ensures) (λ e. cc)

-- any other fault that was found in the words is the cause for a mistake
pub returns-clause-cause : goal.returns-clause-cause
returns-clause-cause c words has = mistake_cause words c.mistake.result (record {
  kind = c.kind.result;
  among = error_among words c.args.error c.kind.result has c.kind.ensures c.in_default-kind.not-OutOfMemory;
  no_help = c.in_default-kind.not-DisplayHelp;
  no_version = c.in_default-kind.not-DisplayVersion;
}) c.mistake.ensures.kind
