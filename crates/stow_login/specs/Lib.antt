pub mod Entries
pub mod TenantFile
pub mod Names
pub mod NewTenants
