-- Laws of log files.
use Rattle.std.specs.Prelude.{◌≡◌, ◌⊎◌, ℕ, List}
use Rattle.log_file.specs.FormFaults.{IsFormFaultOf}
use Rattle.log_file.specs.LogFiles.{IsLogFile}
use Rattle.log_file.specs.Logs.{Log}
use Rattle.log_file.specs.declared.faults.FormFault.{FormFault}

-- bytes are the file of one log at most
abbrev pub FilesHaveOneLog : Type 0
FilesHaveOneLog = (file : List ℕ) (a b : Log) → IsLogFile a file → IsLogFile b file → a ≡ b

-- they have one fault at most
abbrev pub LogFormsHaveOneFault : Type 0
LogFormsHaveOneFault = (file : List ℕ) (a b : FormFault) → IsFormFaultOf a file → IsFormFaultOf b file → a ≡ b

-- a log's file has none
abbrev pub LogFilesHaveNoFault : Type 0
LogFilesHaveNoFault = (file : List ℕ) (log : Log) (fault : FormFault) → IsLogFile log file → ¬ IsFormFaultOf fault file

-- all bytes are the file of a log or have one
abbrev pub LogFormsHaveAnAnswer : Type 0
LogFormsHaveAnAnswer = (file : List ℕ) → ((log : Log) × IsLogFile log file) ⊎ ((fault : FormFault) × IsFormFaultOf fault file)
