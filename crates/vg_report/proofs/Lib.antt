pub mod ReportLemmas
mod BegunLemmas
