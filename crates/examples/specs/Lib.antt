pub mod Examples
pub mod Names
pub mod PriorityRuns
pub mod RefusalRuns
pub mod Table
