pub mod Examples
pub mod Deciding
pub mod MeasuringExamples
pub mod AppraisalExamples
pub mod ChangeExamples
pub mod MarkExamples
pub mod EdgeExamples
pub mod EntryExamples
pub mod SemaphoreExamples
pub mod RunExamples
pub mod Paid
pub use Rattle.hash_algos.proofs as about_hashes
pub use Rattle.ima_templates.proofs as about_templates
pub use Rattle.inode_pages.proofs as about_pages
