-- the databases of buses, and the faults of others
pub mod Judging
pub mod Verdict
pub mod FaultText
-- the check of a file
pub mod Checking
-- the commands that change a bench: their lines, the bench after them, their answers
pub mod LoadLine
pub mod Targets
pub mod NextBench
pub mod Due
pub mod Commands
pub mod Runs
pub mod ReplyText
-- how values of the code are seen
pub mod JudgeView
pub mod CheckRefusals
pub mod LineView
pub mod LoadView
pub mod ReplyView
pub mod CommandView
pub mod LoaderView
