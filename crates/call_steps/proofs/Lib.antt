mod Examples
pub use Rattle.inode_events.proofs.about_hashes
pub use Rattle.inode_events.proofs.about_templates
